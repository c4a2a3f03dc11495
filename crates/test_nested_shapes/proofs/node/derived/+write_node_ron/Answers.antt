-- Written by derive_files.
use Rattle.std.proofs.Common.{◌++◌, chars, codes, string_bytes}
use Rattle.std.proofs.lemmas.Result.{on_ok_weaker}
use Rattle.nano_grammar.specs.FieldCodec.{field_text, fields_text}
use Rattle.nano_grammar.proofs.WrittenLists.{both_written}
use Rattle.nano_text.proofs.RollbackLaws.{unchanged_by}
use Rattle.nano_ron_schema.specs.FieldCodecs.{ron_fields}
use Rattle.nano_ron_schema.proofs.WrittenFields.{more_lines}
use Rattle.nano_ron_nested.proofs.WrittenLaws.{written_between}
use Rattle.test_nested_shapes.proofs.NodeRonCodecsLaws.{node_ron_field_name, node_ron_field_at, node_ron_field_size, node_ron_field_tags, node_ron_field_effects, node_ron_field_children, node_ron_text}
use Rattle.test_nested_shapes.proofs.node.derived.+write_node_ron.Goals as goal
use Rattle.std.proofs.Common.{◌≡◌, ◌∙◌, ℕ, List, [], Result, Ok, Err, OnErr, ap, append_assoc, append-nil, sym}
use Rattle.std.proofs.lemmas.Result.{on_err_weaker}

-- what was written before a failure, and what the failure left
more_after : (a b c x : List ℕ) → b ≡ a ++ x → (more : List ℕ) × (c ≡ b ++ more)
    → (more : List ℕ) × (c ≡ a ++ more)
more_after a b c x e m =
    (x ++ m.0, m.1 ∙ (ap (λ l. l ++ m.0) e ∙ append_assoc a x m.0))

-- nothing, where the last step left nothing
no_more : {a b : List ℕ} → b ≡ a → (more : List ℕ) × (b ≡ a ++ more)
no_more {a} {b} e = ([], e ∙ sym (append-nil a))

-- it is said of an error, whatever it is
of_error : {T E P : Type 0} (r : Result T E) → P → OnErr r P
of_error (Ok x) p = tt
of_error (Err e) p = p

pub NodeWritesRon::write_ron-rollback_on_error-requires :
    goal.NodeWritesRon::write_ron-rollback_on_error-requires
NodeWritesRon::write_ron-rollback_on_error-requires t c =
    unchanged_by c.append_record-written.result c.args.s.now.out c.append_record-written.new.s.out
    c.len-start.result _ c.len-start.ensures c.append_record-written.ensures.ok
    c.append_record-written.ensures.err

pub NodeRonWriter::append_record-returns-clause-ok : goal.NodeRonWriter::append_record-returns-clause-ok
NodeRonWriter::append_record-returns-clause-ok t c =
    let x = c.args.value.now in
    let inner = c.saturating_add-inner.result in
    let before = string_bytes c.args.s.now.out in
    let opened = string_bytes c.st_pre.new.self.out in
    let row =
    more_lines inner (field_text ron_fields inner) ((node_ron_field_name x) ++ ((node_ron_field_at x) ++ (node_ron_field_size x))) ((node_ron_field_tags x) ++ ((node_ron_field_effects x) ++ (node_ron_field_children x)))
    opened (string_bytes c.append_required-3.new.s.out)
    (string_bytes c.append_required_within.new.s.out) (more_lines inner (field_text ron_fields inner) (node_ron_field_name x) ((node_ron_field_at x) ++ (node_ron_field_size x))
    opened (string_bytes c.append_required.new.s.out)
    (string_bytes c.append_required-3.new.s.out) (c.in_ok-append_required.ensures.ok) (more_lines inner (field_text ron_fields inner) (node_ron_field_at x) (node_ron_field_size x)
    (string_bytes c.append_required.new.s.out) (string_bytes c.append_required-2.new.s.out)
    (string_bytes c.append_required-3.new.s.out) (c.in_ok-append_required-2.ensures.ok) (c.in_ok-append_required-3.ensures.ok))) (more_lines inner (field_text ron_fields inner) (node_ron_field_tags x) ((node_ron_field_effects x) ++ (node_ron_field_children x))
    (string_bytes c.append_required-3.new.s.out) (string_bytes c.append_required-4.new.s.out)
    (string_bytes c.append_required_within.new.s.out) (c.in_ok-append_required-4.ensures.ok) (more_lines inner (field_text ron_fields inner) (node_ron_field_effects x) (node_ron_field_children x)
    (string_bytes c.append_required-4.new.s.out) (string_bytes c.append_required-5.new.s.out)
    (string_bytes c.append_required_within.new.s.out) (c.in_ok-append_required-5.ensures.ok) (c.in_ok-append_required_within.ensures.ok))) in
    rw (node_ron_text c.args.d x)
    (on_ok_weaker c.st_post.result
    (written_between c.args.d inner (((node_ron_field_name x) ++ ((node_ron_field_at x) ++ (node_ron_field_size x))) ++ ((node_ron_field_tags x) ++ ((node_ron_field_effects x) ++ (node_ron_field_children x)))) before opened
    (string_bytes c.append_required_within.new.s.out) (string_bytes c.st_post.new.self.out) c.saturating_add-inner.ensures
    c.in_ok-st_pre.ensures.ok row) c.st_post.ensures.ok)

pub NodeRonWriter::append_record-returns-in_err-append_required_within-clause-err :
    goal.NodeRonWriter::append_record-returns-in_err-append_required_within-clause-err
NodeRonWriter::append_record-returns-in_err-append_required_within-clause-err t c =
    of_error _ (more_after _ _ _ _ c.in_ok-st_pre.ensures.ok
    (more_after _ _ _ _ c.in_ok-append_required.ensures.ok
    (more_after _ _ _ _ c.in_ok-append_required-2.ensures.ok
    (more_after _ _ _ _ c.in_ok-append_required-3.ensures.ok
    (more_after _ _ _ _ c.in_ok-append_required-4.ensures.ok
    (more_after _ _ _ _ c.in_ok-append_required-5.ensures.ok
    c.in_err-append_required_within.ensures.err))))))

pub NodeRonWriter::append_record-returns-clause-err :
    goal.NodeRonWriter::append_record-returns-clause-err
NodeRonWriter::append_record-returns-clause-err t c =
    on_err_weaker c.st_post.result (λ same. (more_after _ _ _ _ c.in_ok-st_pre.ensures.ok
    (more_after _ _ _ _ c.in_ok-append_required.ensures.ok
    (more_after _ _ _ _ c.in_ok-append_required-2.ensures.ok
    (more_after _ _ _ _ c.in_ok-append_required-3.ensures.ok
    (more_after _ _ _ _ c.in_ok-append_required-4.ensures.ok
    (more_after _ _ _ _ c.in_ok-append_required-5.ensures.ok
    (more_after _ _ _ _ c.in_ok-append_required_within.ensures.ok
    (no_more same))))))))) c.st_post.ensures.err
