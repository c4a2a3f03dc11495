use Rattle.std.proofs.Common.{ap, ◌∙◌, ◌++◌, ◌∷◌, [], true, option_map, refl, string_bytes}
use Rattle.nano_show_answers.specs.declared.listed.OpenList.{OpenList}
use Rattle.nano_show_answers.specs.Listing.{closed_lists, closed_if_opened}
use Rattle.nano_show_answers.proofs.ListingLemmas.{list_closed, single_listed, list_opened}
use Rattle.nano_show_answers.proofs.listed.append_next.Goals as goal

pub returns-in_default-clause-text : goal.returns-in_default-clause-text
returns-in_default-clause-text c =
    list_closed c.args.lists.now.items c.args.list
    (string_bytes c.args.state.now.out) c.in_default.ensures.cases _ c.in_ok-push_str.ensures.bytes

pub returns-in_ok-push-2-clause-text : goal.returns-in_ok-push-2-clause-text
returns-in_ok-push-2-clause-text c =
    let begun = c.in_ok-push_str-2.ensures.bytes
    ∙ ap (λ text. string_bytes c.args.state.now.out ++ text) c.before_next.ensures in
    let inner : OpenList = record { values = c.in-Some-2.values; is_first = true } in
    ap (λ items. string_bytes c.append_start.new.state.out ++ closed_lists items [])
    (c.in_ok-push-2.ensures.items ∙ ap (λ items. items ++ inner ∷ []) c.in_ok-push.ensures.items)
    ∙ list_opened c.args.lists.now.items c.args.list
    (string_bytes c.args.state.now.out) c.in-Some.value.now _ c.in-Some.ensures.cases.0 refl _
    (string_bytes c.append_start.new.state.out) _ begun c.in_ok-values.ensures.text inner
    (ap (λ o. closed_if_opened (option_map (λ v. v.now) o)) c.in-Some-2.is)

pub returns-in_default-2-clause-text : goal.returns-in_default-2-clause-text
returns-in_default-2-clause-text c =
    let begun = c.in_ok-push_str-2.ensures.bytes
    ∙ ap (λ text. string_bytes c.args.state.now.out ++ text) c.before_next.ensures in
    ap (λ items. string_bytes c.append_start.new.state.out ++ closed_lists items [])
    c.in_ok-push.ensures.items
    ∙ single_listed c.args.lists.now.items c.args.list
    (string_bytes c.args.state.now.out) c.in-Some.value.now _ c.in-Some.ensures.cases.0 refl _
    (string_bytes c.append_start.new.state.out) _ begun c.in_ok-values.ensures.text
    (ap (λ o. closed_if_opened (option_map (λ v. v.now) o)) c.in_default-2.is)
