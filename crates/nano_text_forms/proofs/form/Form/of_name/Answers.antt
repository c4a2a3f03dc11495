use Rattle.std.proofs.Common.{refl, sym, ◌∙◌, codes}
use Rattle.std.proofs.lemmas.Str.Pattern.{ends_text}
use Rattle.nano_text_forms.proofs.form.Form.of_name.Goals as goal

pub returns-then-ends_with : goal.returns-then-ends_with
returns-then-ends_with c =
    let json = sym c.if-ends_with.true ∙ ends_text _ (codes ".json") c.args.name.now c.ends_with.ensures.cases in
    rw (sym json) refl

pub returns-then-ends_with-2 : goal.returns-then-ends_with-2
returns-then-ends_with-2 c =
    let json = sym c.if-ends_with.false ∙ ends_text _ (codes ".json") c.args.name.now c.ends_with.ensures.cases in
    let ron = sym c.if-ends_with-2.true ∙ ends_text _ (codes ".ron") c.args.name.now c.ends_with-else-ends_with.ensures.cases in
    rw (sym json, sym ron) refl

pub returns-else-ends_with-2 : goal.returns-else-ends_with-2
returns-else-ends_with-2 c =
    let json = sym c.if-ends_with.false ∙ ends_text _ (codes ".json") c.args.name.now c.ends_with.ensures.cases in
    let ron = sym c.if-ends_with-2.false ∙ ends_text _ (codes ".ron") c.args.name.now c.ends_with-else-ends_with.ensures.cases in
    rw (sym json, sym ron) refl
