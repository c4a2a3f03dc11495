-- Written by derive_files.
use Rattle.test_nested_generics.proofs.PlanJsonCodecsLaws.{plan_json_text_nothing, plan_json_text_one, plan_json_text_many, plan_json_text_both, plan_json_text_step}
use Rattle.std.proofs.Common.{◌++◌, true, string_bytes}
use Rattle.std.proofs.lemmas.Result.{on_ok_weaker}
use Rattle.nano_grammar.specs.FieldCodec.{field_text}
use Rattle.nano_text.proofs.RollbackLaws.{unchanged_by}
use Rattle.nano_json_schema.specs.FieldCodecs.{json_fields}
use Rattle.nano_json_schema.proofs.WrittenFields.{more_fields}
use Rattle.nano_json_nested.proofs.WrittenLaws.{written_between, named_between}
use Rattle.test_nested_generics.proofs.PlanJsonCodecsLaws.{plan_json_field_step_item, plan_json_field_step_next}
use Rattle.std.specs.Prelude.{codes}
use Rattle.nano_json_tokens.specs.Written.{written_text}
use Rattle.test_nested_generics.specs.PlanJsonCodecs.{plan_json, plan_json_content_step}
use Rattle.test_nested_generics.proofs.plan.derived.+write_plan_json.Goals as goal
use Rattle.std.proofs.Common.{◌≡◌, ◌∙◌, ℕ, List, [], Result, Ok, Err, OnErr, ap, append_assoc, append-nil, sym}
use Rattle.std.proofs.lemmas.Result.{on_err_weaker}

-- what was written before a failure, and what the failure left
more_after : (a b c x : List ℕ) → b ≡ a ++ x → (more : List ℕ) × (c ≡ b ++ more)
    → (more : List ℕ) × (c ≡ a ++ more)
more_after a b c x e m =
    (x ++ m.0, m.1 ∙ (ap (λ l. l ++ m.0) e ∙ append_assoc a x m.0))

-- nothing, where the last step left nothing
no_more : {a b : List ℕ} → b ≡ a → (more : List ℕ) × (b ≡ a ++ more)
no_more {a} {b} e = ([], e ∙ sym (append-nil a))

-- it is said of an error, whatever it is
of_error : {T E P : Type 0} (r : Result T E) → P → OnErr r P
of_error (Ok x) p = tt
of_error (Err e) p = p

pub PlanJsonWriter::write_step-rollback_on_error-requires :
    goal.PlanJsonWriter::write_step-rollback_on_error-requires
PlanJsonWriter::write_step-rollback_on_error-requires g t c =
    unchanged_by c.append_step-written.result c.args.s.now.out
    c.append_step-written.new.s.out c.len-start.result _ c.len-start.ensures
    c.append_step-written.ensures.ok c.append_step-written.ensures.err

pub PlanJsonWriter::append_step_fields-returns-clause-ok :
    goal.PlanJsonWriter::append_step_fields-returns-clause-ok
PlanJsonWriter::append_step_fields-returns-clause-ok g t c =
    let inner = c.saturating_add-inner.result in
    let before = string_bytes c.args.s.now.out in
    let opened = string_bytes c.st_pre.new.self.out in
    let row =
    more_fields (field_text json_fields inner) true c.in_ok-next_is_first.next_is_first ((plan_json_field_step_item g.T.JsonCodec.json) c.args.v0.now) ((plan_json_field_step_next g.T.JsonCodec.json) c.args.v1.now)
    opened (string_bytes c.append_fields.new.s.out) (string_bytes c.append_required_within.new.s.out)
    (c.in_ok-next_is_first.ensures.ok) (c.in_ok-next_is_first.ensures.next) (c.in_ok-append_required_within.ensures.ok) in
    (on_ok_weaker c.st_post.result
    (written_between c.args.d inner (((plan_json_field_step_item g.T.JsonCodec.json) c.args.v0.now) ++ ((plan_json_field_step_next g.T.JsonCodec.json) c.args.v1.now)) before opened
    (string_bytes c.append_required_within.new.s.out) (string_bytes c.st_post.new.self.out) c.saturating_add-inner.ensures
    c.in_ok-st_pre.ensures.ok row) c.st_post.ensures.ok)

pub PlanJsonWriter::append_step_fields-returns-in_err-append_required_within-clause-err :
    goal.PlanJsonWriter::append_step_fields-returns-in_err-append_required_within-clause-err
PlanJsonWriter::append_step_fields-returns-in_err-append_required_within-clause-err g t c =
    of_error _ (more_after _ _ _ _ c.in_ok-st_pre.ensures.ok
    (more_after _ _ _ _ c.in_ok-next_is_first.ensures.ok
    c.in_err-append_required_within.ensures.err))

pub PlanJsonWriter::append_step_fields-returns-clause-err :
    goal.PlanJsonWriter::append_step_fields-returns-clause-err
PlanJsonWriter::append_step_fields-returns-clause-err g t c =
    on_err_weaker c.st_post.result (λ same. (more_after _ _ _ _ c.in_ok-st_pre.ensures.ok
    (more_after _ _ _ _ c.in_ok-next_is_first.ensures.ok
    (more_after _ _ _ _ c.in_ok-append_required_within.ensures.ok
    (no_more same))))) c.st_post.ensures.err

pub PlanJsonWriter::append_step-returns-clause-ok : goal.PlanJsonWriter::append_step-returns-clause-ok
PlanJsonWriter::append_step-returns-clause-ok g t c =
    on_ok_weaker c.st_post.result
    (named_between (written_text (codes "Step"))
    (((plan_json_content_step g.T.JsonCodec.json).codec (plan_json g.T.JsonCodec.json)).canonical.text c.args.d (c.args.v0.now, c.args.v1.now))
    (string_bytes c.args.s.now.out) (string_bytes c.st_pre.new.self.out)
    (string_bytes c.ser_json.new.s.out) (string_bytes c.push_str.new.self)
    (string_bytes c.append_step_fields.new.s.out) (string_bytes c.st_post.new.self.out)
    c.in_ok-st_pre.ensures.ok c.in_ok-ser_json.ensures.ok c.in_ok-push_str.ensures.bytes
    c.in_ok-append_step_fields.ensures.ok) c.st_post.ensures.ok

pub PlanWritesJson::write_json-returns-in-Nothing-clause-ok : goal.PlanWritesJson::write_json-returns-in-Nothing-clause-ok
PlanWritesJson::write_json-returns-in-Nothing-clause-ok g t c =
    rw (c.in-Nothing.is, (plan_json_text_nothing g.T.JsonCodec.json) c.args.d)
    c.write_unit_variant.ensures.ok

pub PlanWritesJson::write_json-returns-in-One-clause-ok : goal.PlanWritesJson::write_json-returns-in-One-clause-ok
PlanWritesJson::write_json-returns-in-One-clause-ok g t c =
    rw (c.in-One.is, (plan_json_text_one g.T.JsonCodec.json) c.args.d c.in-One.first)
    c.write_variant_other.ensures.ok

pub PlanWritesJson::write_json-returns-in-Many-clause-ok : goal.PlanWritesJson::write_json-returns-in-Many-clause-ok
PlanWritesJson::write_json-returns-in-Many-clause-ok g t c =
    rw (c.in-Many.is, (plan_json_text_many g.T.JsonCodec.json) c.args.d c.in-Many.first)
    c.write_variant_other-in-Many.ensures.ok

pub PlanWritesJson::write_json-returns-in-Both-clause-ok : goal.PlanWritesJson::write_json-returns-in-Both-clause-ok
PlanWritesJson::write_json-returns-in-Both-clause-ok g t c =
    rw (c.in-Both.is, (plan_json_text_both g.T.JsonCodec.json) c.args.d c.in-Both.first c.in-Both.second)
    c.write_pair_within.ensures.ok

pub PlanWritesJson::write_json-returns-in-Step-clause-ok : goal.PlanWritesJson::write_json-returns-in-Step-clause-ok
PlanWritesJson::write_json-returns-in-Step-clause-ok g t c =
    rw (c.in-Step.is, (plan_json_text_step g.T.JsonCodec.json) c.args.d c.in-Step.v0 c.in-Step.v1)
    c.write_step.ensures.ok
