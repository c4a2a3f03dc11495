-- Written by derive_files.
use Rattle.std.proofs.Common.{◌++◌, true, string_bytes}
use Rattle.std.proofs.lemmas.Result.{on_ok_weaker}
use Rattle.nano_grammar.specs.FieldCodec.{field_text}
use Rattle.nano_text.proofs.RollbackLaws.{unchanged_by}
use Rattle.nano_json_schema.specs.FieldCodecs.{json_fields}
use Rattle.nano_json_schema.proofs.WrittenFields.{more_fields}
use Rattle.nano_json_nested.proofs.WrittenLaws.{written_between, none_so_far}
use Rattle.test_nested_shapes.proofs.NodeJsonCodecsLaws.{node_json_text, node_json_field_name, node_json_field_at, node_json_field_size, node_json_field_tags, node_json_field_effects, node_json_field_children}
use Rattle.test_nested_shapes.proofs.node.derived.+write_node_json.Goals as goal
use Rattle.std.proofs.Common.{◌≡◌, ◌∙◌, ℕ, List, [], Result, Ok, Err, OnErr, ap, append_assoc, append-nil, sym}
use Rattle.std.proofs.lemmas.Result.{on_err_weaker}

-- what was written before a failure, and what the failure left
more_after : (a b c x : List ℕ) → b ≡ a ++ x → (more : List ℕ) × (c ≡ b ++ more)
    → (more : List ℕ) × (c ≡ a ++ more)
more_after a b c x e m =
    (x ++ m.0, m.1 ∙ (ap (λ l. l ++ m.0) e ∙ append_assoc a x m.0))

-- nothing, where the last step left nothing
no_more : {a b : List ℕ} → b ≡ a → (more : List ℕ) × (b ≡ a ++ more)
no_more {a} {b} e = ([], e ∙ sym (append-nil a))

-- it is said of an error, whatever it is
of_error : {T E P : Type 0} (r : Result T E) → P → OnErr r P
of_error (Ok x) p = tt
of_error (Err e) p = p

pub NodeWritesJson::write_json-rollback_on_error-requires :
    goal.NodeWritesJson::write_json-rollback_on_error-requires
NodeWritesJson::write_json-rollback_on_error-requires t c =
    unchanged_by c.append_record-written.result c.args.s.now.out
    c.append_record-written.new.s.out c.len-start.result _ c.len-start.ensures
    c.append_record-written.ensures.ok c.append_record-written.ensures.err

pub NodeJsonWriter::append_record-returns-clause-ok :
    goal.NodeJsonWriter::append_record-returns-clause-ok
NodeJsonWriter::append_record-returns-clause-ok t c =
    let x = c.args.value.now in
    let inner = c.saturating_add-inner.result in
    let before = string_bytes c.args.s.now.out in
    let opened = string_bytes c.st_pre.new.self.out in
    let row =
    more_fields (field_text json_fields inner) true c.in_ok-tags_is_first.tags_is_first ((node_json_field_name x) ++ ((node_json_field_at x) ++ (node_json_field_size x))) ((node_json_field_tags x) ++ ((node_json_field_effects x) ++ (node_json_field_children x)))
    opened (string_bytes c.append_fields-3.new.s.out) (string_bytes c.append_required_within.new.s.out)
    (more_fields (field_text json_fields inner) true c.in_ok-at_is_first.at_is_first (node_json_field_name x) ((node_json_field_at x) ++ (node_json_field_size x))
    opened (string_bytes c.append_fields.new.s.out) (string_bytes c.append_fields-3.new.s.out)
    (c.in_ok-at_is_first.ensures.ok) (c.in_ok-at_is_first.ensures.next) (more_fields (field_text json_fields inner) c.in_ok-at_is_first.at_is_first c.in_ok-size_is_first.size_is_first (node_json_field_at x) (node_json_field_size x)
    (string_bytes c.append_fields.new.s.out) (string_bytes c.append_fields-2.new.s.out) (string_bytes c.append_fields-3.new.s.out)
    (c.in_ok-size_is_first.ensures.ok) (c.in_ok-size_is_first.ensures.next) (c.in_ok-tags_is_first.ensures.ok))) (none_so_far true c.in_ok-at_is_first.at_is_first c.in_ok-tags_is_first.tags_is_first (node_json_field_name x) ((node_json_field_at x) ++ (node_json_field_size x))
    (c.in_ok-at_is_first.ensures.next) (none_so_far c.in_ok-at_is_first.at_is_first c.in_ok-size_is_first.size_is_first c.in_ok-tags_is_first.tags_is_first (node_json_field_at x) (node_json_field_size x)
    (c.in_ok-size_is_first.ensures.next) (c.in_ok-tags_is_first.ensures.next))) (more_fields (field_text json_fields inner) c.in_ok-tags_is_first.tags_is_first c.in_ok-effects_is_first.effects_is_first (node_json_field_tags x) ((node_json_field_effects x) ++ (node_json_field_children x))
    (string_bytes c.append_fields-3.new.s.out) (string_bytes c.append_fields-4.new.s.out) (string_bytes c.append_required_within.new.s.out)
    (c.in_ok-effects_is_first.ensures.ok) (c.in_ok-effects_is_first.ensures.next) (more_fields (field_text json_fields inner) c.in_ok-effects_is_first.effects_is_first c.in_ok-children_is_first.children_is_first (node_json_field_effects x) (node_json_field_children x)
    (string_bytes c.append_fields-4.new.s.out) (string_bytes c.append_fields-5.new.s.out) (string_bytes c.append_required_within.new.s.out)
    (c.in_ok-children_is_first.ensures.ok) (c.in_ok-children_is_first.ensures.next) (c.in_ok-append_required_within.ensures.ok))) in
    rw (node_json_text c.args.d x)
    (on_ok_weaker c.st_post.result
    (written_between c.args.d inner (((node_json_field_name x) ++ ((node_json_field_at x) ++ (node_json_field_size x))) ++ ((node_json_field_tags x) ++ ((node_json_field_effects x) ++ (node_json_field_children x)))) before opened
    (string_bytes c.append_required_within.new.s.out) (string_bytes c.st_post.new.self.out) c.saturating_add-inner.ensures
    c.in_ok-st_pre.ensures.ok row) c.st_post.ensures.ok)

pub NodeJsonWriter::append_record-returns-in_err-append_required_within-clause-err :
    goal.NodeJsonWriter::append_record-returns-in_err-append_required_within-clause-err
NodeJsonWriter::append_record-returns-in_err-append_required_within-clause-err t c =
    of_error _ (more_after _ _ _ _ c.in_ok-st_pre.ensures.ok
    (more_after _ _ _ _ c.in_ok-at_is_first.ensures.ok
    (more_after _ _ _ _ c.in_ok-size_is_first.ensures.ok
    (more_after _ _ _ _ c.in_ok-tags_is_first.ensures.ok
    (more_after _ _ _ _ c.in_ok-effects_is_first.ensures.ok
    (more_after _ _ _ _ c.in_ok-children_is_first.ensures.ok
    c.in_err-append_required_within.ensures.err))))))

pub NodeJsonWriter::append_record-returns-clause-err :
    goal.NodeJsonWriter::append_record-returns-clause-err
NodeJsonWriter::append_record-returns-clause-err t c =
    on_err_weaker c.st_post.result (λ same. (more_after _ _ _ _ c.in_ok-st_pre.ensures.ok
    (more_after _ _ _ _ c.in_ok-at_is_first.ensures.ok
    (more_after _ _ _ _ c.in_ok-size_is_first.ensures.ok
    (more_after _ _ _ _ c.in_ok-tags_is_first.ensures.ok
    (more_after _ _ _ _ c.in_ok-effects_is_first.ensures.ok
    (more_after _ _ _ _ c.in_ok-children_is_first.ensures.ok
    (more_after _ _ _ _ c.in_ok-append_required_within.ensures.ok
    (no_more same))))))))) c.st_post.ensures.err
