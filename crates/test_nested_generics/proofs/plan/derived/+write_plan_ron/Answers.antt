-- Written by derive_files.
use Rattle.test_nested_generics.proofs.PlanRonCodecsLaws.{plan_ron_text_nothing, plan_ron_text_one, plan_ron_text_many, plan_ron_text_both, plan_ron_text_step}
use Rattle.std.proofs.Common.{◌++◌, chars, codes, string_bytes}
use Rattle.std.proofs.lemmas.Result.{on_ok_weaker}
use Rattle.nano_grammar.specs.FieldCodec.{field_text, fields_text}
use Rattle.nano_grammar.proofs.WrittenLists.{both_written}
use Rattle.nano_text.proofs.RollbackLaws.{unchanged_by}
use Rattle.nano_ron_schema.specs.FieldCodecs.{ron_fields}
use Rattle.nano_ron_schema.proofs.WrittenFields.{more_lines}
use Rattle.nano_ron_nested.proofs.WrittenLaws.{written_between}
use Rattle.test_nested_generics.proofs.PlanRonCodecsLaws.{plan_ron_field_step_item, plan_ron_field_step_next}
use Rattle.test_nested_generics.proofs.plan.derived.+write_plan_ron.Goals as goal
use Rattle.std.proofs.Common.{◌≡◌, ◌∙◌, ℕ, List, [], Result, Ok, Err, OnErr, ap, append_assoc, append-nil, sym}
use Rattle.std.proofs.lemmas.Result.{on_err_weaker}

-- what was written before a failure, and what the failure left
more_after : (a b c x : List ℕ) → b ≡ a ++ x → (more : List ℕ) × (c ≡ b ++ more)
    → (more : List ℕ) × (c ≡ a ++ more)
more_after a b c x e m =
    (x ++ m.0, m.1 ∙ (ap (λ l. l ++ m.0) e ∙ append_assoc a x m.0))

-- nothing, where the last step left nothing
no_more : {a b : List ℕ} → b ≡ a → (more : List ℕ) × (b ≡ a ++ more)
no_more {a} {b} e = ([], e ∙ sym (append-nil a))

-- it is said of an error, whatever it is
of_error : {T E P : Type 0} (r : Result T E) → P → OnErr r P
of_error (Ok x) p = tt
of_error (Err e) p = p

pub PlanRonWriter::write_step-rollback_on_error-requires :
    goal.PlanRonWriter::write_step-rollback_on_error-requires
PlanRonWriter::write_step-rollback_on_error-requires g t c =
    unchanged_by c.append_step-written.result c.args.s.now.out c.append_step-written.new.s.out
    c.len-start.result _ c.len-start.ensures c.append_step-written.ensures.ok
    c.append_step-written.ensures.err

pub PlanRonWriter::append_step-returns-clause-ok : goal.PlanRonWriter::append_step-returns-clause-ok
PlanRonWriter::append_step-returns-clause-ok g t c =
    let inner = c.saturating_add-inner.result in
    let before = string_bytes c.args.s.now.out in
    let named = string_bytes c.write_unit_variant.new.s.out in
    let opened = string_bytes c.st_pre.new.self.out in
    let after = string_bytes c.st_post.new.self.out in
    let row =
    more_lines inner (field_text ron_fields inner) ((plan_ron_field_step_item g.T.RonCodec.ron) c.args.v0.now) ((plan_ron_field_step_next g.T.RonCodec.ron) c.args.v1.now)
    opened (string_bytes c.append_required.new.s.out)
    (string_bytes c.append_required_within.new.s.out) (c.in_ok-append_required.ensures.ok) (c.in_ok-append_required_within.ensures.ok) in
    on_ok_weaker c.st_post.result
    (λ last. both_written before named after (chars (codes "Step"))
    (fields_text ron_fields c.args.d (((plan_ron_field_step_item g.T.RonCodec.ron) c.args.v0.now) ++ ((plan_ron_field_step_next g.T.RonCodec.ron) c.args.v1.now))) c.in_ok-write_unit_variant.ensures.ok
    (written_between c.args.d inner (((plan_ron_field_step_item g.T.RonCodec.ron) c.args.v0.now) ++ ((plan_ron_field_step_next g.T.RonCodec.ron) c.args.v1.now)) named opened
    (string_bytes c.append_required_within.new.s.out) after c.saturating_add-inner.ensures c.in_ok-st_pre.ensures.ok row last))
    c.st_post.ensures.ok

pub PlanRonWriter::append_step-returns-in_err-append_required_within-clause-err :
    goal.PlanRonWriter::append_step-returns-in_err-append_required_within-clause-err
PlanRonWriter::append_step-returns-in_err-append_required_within-clause-err g t c =
    of_error _ (more_after _ _ _ _ c.in_ok-write_unit_variant.ensures.ok
    (more_after _ _ _ _ c.in_ok-st_pre.ensures.ok
    (more_after _ _ _ _ c.in_ok-append_required.ensures.ok
    c.in_err-append_required_within.ensures.err)))

pub PlanRonWriter::append_step-returns-clause-err :
    goal.PlanRonWriter::append_step-returns-clause-err
PlanRonWriter::append_step-returns-clause-err g t c =
    on_err_weaker c.st_post.result (λ same. (more_after _ _ _ _ c.in_ok-write_unit_variant.ensures.ok
    (more_after _ _ _ _ c.in_ok-st_pre.ensures.ok
    (more_after _ _ _ _ c.in_ok-append_required.ensures.ok
    (more_after _ _ _ _ c.in_ok-append_required_within.ensures.ok
    (no_more same)))))) c.st_post.ensures.err

pub PlanWritesRon::write_ron-returns-in-Nothing-clause-ok : goal.PlanWritesRon::write_ron-returns-in-Nothing-clause-ok
PlanWritesRon::write_ron-returns-in-Nothing-clause-ok g t c =
    rw (c.in-Nothing.is, (plan_ron_text_nothing g.T.RonCodec.ron) c.args.d)
    c.write_unit_variant.ensures.ok

pub PlanWritesRon::write_ron-returns-in-One-clause-ok : goal.PlanWritesRon::write_ron-returns-in-One-clause-ok
PlanWritesRon::write_ron-returns-in-One-clause-ok g t c =
    rw (c.in-One.is, (plan_ron_text_one g.T.RonCodec.ron) c.args.d c.in-One.first)
    c.write_variant_other.ensures.ok

pub PlanWritesRon::write_ron-returns-in-Many-clause-ok : goal.PlanWritesRon::write_ron-returns-in-Many-clause-ok
PlanWritesRon::write_ron-returns-in-Many-clause-ok g t c =
    rw (c.in-Many.is, (plan_ron_text_many g.T.RonCodec.ron) c.args.d c.in-Many.first)
    c.write_variant_other-in-Many.ensures.ok

pub PlanWritesRon::write_ron-returns-in-Both-clause-ok : goal.PlanWritesRon::write_ron-returns-in-Both-clause-ok
PlanWritesRon::write_ron-returns-in-Both-clause-ok g t c =
    rw (c.in-Both.is, (plan_ron_text_both g.T.RonCodec.ron) c.args.d c.in-Both.first c.in-Both.second)
    c.write_pair_within.ensures.ok

pub PlanWritesRon::write_ron-returns-in-Step-clause-ok : goal.PlanWritesRon::write_ron-returns-in-Step-clause-ok
PlanWritesRon::write_ron-returns-in-Step-clause-ok g t c =
    rw (c.in-Step.is, (plan_ron_text_step g.T.RonCodec.ron) c.args.d c.in-Step.v0 c.in-Step.v1)
    c.write_step.ensures.ok
