use Rattle.std.proofs.Common.{ap, ◌<◌, ◌∙◌, ◌≡◌, ◌++◌, ◌∷◌, ◌-◌, [], sym, arith, vec_len, unwrap_or}
use Rattle.std.proofs.Common.{string_bytes}
use Rattle.nano_show_answers.specs.Listing.{closed_lists}
use Rattle.nano_show_answers.proofs.ListingLemmas.{less_left, popped}
use Rattle.nano_show_answers.proofs.listed.append_listed.Goals as goal

pub lists-smaller : goal.lists-smaller
lists-smaller c =
    let list = c.in-Some-pop.list in
    let some : 0 < vec_len c.lists.lists = omega (arith, c.in-Some-pop.ensures.cases) in
    let last = ap (λ o. unwrap_or o list) (c.in-Some-pop.ensures.value list some) in
    let all : c.lists.lists.items ≡ c.pop.new.self.items ++ list ∷ [] =
    popped c.lists.lists.items c.pop.new.self.items list (vec_len c.lists.lists - 1)
    (omega (arith, c.lists.lists.ok.0, some)) c.in-Some-pop.ensures.rest last in
    less_left (string_bytes c.lists.state.out) (string_bytes c.append_next.new.state.out)
    (closed_lists c.append_next.new.lists.items []) (closed_lists c.lists.lists.items [])
    (c.in_ok-append_next.ensures.text ∙ ap
    (λ ls. string_bytes c.lists.state.out ++ closed_lists ls []) (sym all))
    c.in_ok-append_next.ensures.grows
