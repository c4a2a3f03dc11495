-- Written by derive_files.
use Rattle.std.proofs.Common.{◌++◌, true, string_bytes}
use Rattle.std.proofs.lemmas.Result.{on_ok_weaker}
use Rattle.nano_grammar.specs.FieldCodec.{field_text}
use Rattle.nano_text.proofs.RollbackLaws.{unchanged_by}
use Rattle.nano_json_schema.specs.FieldCodecs.{json_fields}
use Rattle.nano_json_schema.proofs.WrittenFields.{more_fields}
use Rattle.nano_json_nested.proofs.WrittenLaws.{written_between, none_so_far}
use Rattle.test_nested_generics.proofs.ShelfJsonCodecsLaws.{shelf_json_text, shelf_json_field_name, shelf_json_field_values, shelf_json_field_best, shelf_json_field_inner}
use Rattle.test_nested_generics.proofs.shelf.derived.+write_shelf_json.Goals as goal
use Rattle.std.proofs.Common.{◌≡◌, ◌∙◌, ℕ, List, [], Result, Ok, Err, OnErr, ap, append_assoc, append-nil, sym}
use Rattle.std.proofs.lemmas.Result.{on_err_weaker}

-- what was written before a failure, and what the failure left
more_after : (a b c x : List ℕ) → b ≡ a ++ x → (more : List ℕ) × (c ≡ b ++ more)
    → (more : List ℕ) × (c ≡ a ++ more)
more_after a b c x e m =
    (x ++ m.0, m.1 ∙ (ap (λ l. l ++ m.0) e ∙ append_assoc a x m.0))

-- nothing, where the last step left nothing
no_more : {a b : List ℕ} → b ≡ a → (more : List ℕ) × (b ≡ a ++ more)
no_more {a} {b} e = ([], e ∙ sym (append-nil a))

-- it is said of an error, whatever it is
of_error : {T E P : Type 0} (r : Result T E) → P → OnErr r P
of_error (Ok x) p = tt
of_error (Err e) p = p

pub ShelfWritesJson::write_json-rollback_on_error-requires :
    goal.ShelfWritesJson::write_json-rollback_on_error-requires
ShelfWritesJson::write_json-rollback_on_error-requires g t c =
    unchanged_by c.append_record-written.result c.args.s.now.out
    c.append_record-written.new.s.out c.len-start.result _ c.len-start.ensures
    c.append_record-written.ensures.ok c.append_record-written.ensures.err

pub ShelfJsonWriter::append_record-returns-clause-ok :
    goal.ShelfJsonWriter::append_record-returns-clause-ok
ShelfJsonWriter::append_record-returns-clause-ok g t c =
    let x = c.args.value.now in
    let inner = c.saturating_add-inner.result in
    let before = string_bytes c.args.s.now.out in
    let opened = string_bytes c.st_pre.new.self.out in
    let row =
    more_fields (field_text json_fields inner) true c.in_ok-best_is_first.best_is_first (((shelf_json_field_name g.K.JsonCodec.json g.V.JsonCodec.json) x) ++ ((shelf_json_field_values g.K.JsonCodec.json g.V.JsonCodec.json) x)) (((shelf_json_field_best g.K.JsonCodec.json g.V.JsonCodec.json) x) ++ ((shelf_json_field_inner g.K.JsonCodec.json g.V.JsonCodec.json) x))
    opened (string_bytes c.append_fields-2.new.s.out) (string_bytes c.append_required_within.new.s.out)
    (more_fields (field_text json_fields inner) true c.in_ok-values_is_first.values_is_first ((shelf_json_field_name g.K.JsonCodec.json g.V.JsonCodec.json) x) ((shelf_json_field_values g.K.JsonCodec.json g.V.JsonCodec.json) x)
    opened (string_bytes c.append_fields.new.s.out) (string_bytes c.append_fields-2.new.s.out)
    (c.in_ok-values_is_first.ensures.ok) (c.in_ok-values_is_first.ensures.next) (c.in_ok-best_is_first.ensures.ok)) (none_so_far true c.in_ok-values_is_first.values_is_first c.in_ok-best_is_first.best_is_first ((shelf_json_field_name g.K.JsonCodec.json g.V.JsonCodec.json) x) ((shelf_json_field_values g.K.JsonCodec.json g.V.JsonCodec.json) x)
    (c.in_ok-values_is_first.ensures.next) (c.in_ok-best_is_first.ensures.next)) (more_fields (field_text json_fields inner) c.in_ok-best_is_first.best_is_first c.in_ok-inner_is_first.inner_is_first ((shelf_json_field_best g.K.JsonCodec.json g.V.JsonCodec.json) x) ((shelf_json_field_inner g.K.JsonCodec.json g.V.JsonCodec.json) x)
    (string_bytes c.append_fields-2.new.s.out) (string_bytes c.append_fields-3.new.s.out) (string_bytes c.append_required_within.new.s.out)
    (c.in_ok-inner_is_first.ensures.ok) (c.in_ok-inner_is_first.ensures.next) (c.in_ok-append_required_within.ensures.ok)) in
    rw ((shelf_json_text g.K.JsonCodec.json g.V.JsonCodec.json) c.args.d x)
    (on_ok_weaker c.st_post.result
    (written_between c.args.d inner ((((shelf_json_field_name g.K.JsonCodec.json g.V.JsonCodec.json) x) ++ ((shelf_json_field_values g.K.JsonCodec.json g.V.JsonCodec.json) x)) ++ (((shelf_json_field_best g.K.JsonCodec.json g.V.JsonCodec.json) x) ++ ((shelf_json_field_inner g.K.JsonCodec.json g.V.JsonCodec.json) x))) before opened
    (string_bytes c.append_required_within.new.s.out) (string_bytes c.st_post.new.self.out) c.saturating_add-inner.ensures
    c.in_ok-st_pre.ensures.ok row) c.st_post.ensures.ok)

pub ShelfJsonWriter::append_record-returns-in_err-best_is_first-clause-err :
    goal.ShelfJsonWriter::append_record-returns-in_err-best_is_first-clause-err
ShelfJsonWriter::append_record-returns-in_err-best_is_first-clause-err g t c =
    of_error _ (more_after _ _ _ _ c.in_ok-st_pre.ensures.ok
    (more_after _ _ _ _ c.in_ok-values_is_first.ensures.ok
    c.in_err-best_is_first.ensures.err))

pub ShelfJsonWriter::append_record-returns-in_err-inner_is_first-clause-err :
    goal.ShelfJsonWriter::append_record-returns-in_err-inner_is_first-clause-err
ShelfJsonWriter::append_record-returns-in_err-inner_is_first-clause-err g t c =
    of_error _ (more_after _ _ _ _ c.in_ok-st_pre.ensures.ok
    (more_after _ _ _ _ c.in_ok-values_is_first.ensures.ok
    (more_after _ _ _ _ c.in_ok-best_is_first.ensures.ok
    c.in_err-inner_is_first.ensures.err)))

pub ShelfJsonWriter::append_record-returns-in_err-append_required_within-clause-err :
    goal.ShelfJsonWriter::append_record-returns-in_err-append_required_within-clause-err
ShelfJsonWriter::append_record-returns-in_err-append_required_within-clause-err g t c =
    of_error _ (more_after _ _ _ _ c.in_ok-st_pre.ensures.ok
    (more_after _ _ _ _ c.in_ok-values_is_first.ensures.ok
    (more_after _ _ _ _ c.in_ok-best_is_first.ensures.ok
    (more_after _ _ _ _ c.in_ok-inner_is_first.ensures.ok
    c.in_err-append_required_within.ensures.err))))

pub ShelfJsonWriter::append_record-returns-clause-err :
    goal.ShelfJsonWriter::append_record-returns-clause-err
ShelfJsonWriter::append_record-returns-clause-err g t c =
    on_err_weaker c.st_post.result (λ same. (more_after _ _ _ _ c.in_ok-st_pre.ensures.ok
    (more_after _ _ _ _ c.in_ok-values_is_first.ensures.ok
    (more_after _ _ _ _ c.in_ok-best_is_first.ensures.ok
    (more_after _ _ _ _ c.in_ok-inner_is_first.ensures.ok
    (more_after _ _ _ _ c.in_ok-append_required_within.ensures.ok
    (no_more same))))))) c.st_post.ensures.err
