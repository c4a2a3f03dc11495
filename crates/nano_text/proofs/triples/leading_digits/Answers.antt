use Rattle.std.proofs.Common.{◌-◌, ◌*◌, ◌+◌, ◌∙◌, arith, drop, subst, sym, IsAscii}
use Rattle.std.proofs.Common.{List, ℕ, get_or, ◌∷◌, []}
use Rattle.std.proofs.lemmas.Fmt.{decimal_nonempty, length-decimal-le}
use Rattle.std.proofs.lemmas.List.{take-take}
use Rattle.std.proofs.lemmas.Str.{IsAscii-take, IsAscii-drop}
use Rattle.nano_text.specs.declared.triples.TheConstants.{TRIPLES}
use Rattle.nano_text.proofs.LaneMasks.{triples_ascii}
use Rattle.nano_text.proofs.TripleDigits.{four_read, leading_entry, leading_within}
use Rattle.nano_text.proofs.triples.leading_digits.Goals as goal

pub overflow_sub-start : goal.overflow_sub-start
overflow_sub-start c =
    let few = length-decimal-le 3 c.args.number (omega arith) (omega arith) (omega arith) in
    omega (arith, few)

pub bounds-table-start-2 : goal.bounds-table-start-2
bounds-table-start-2 c =
    let some = decimal_nonempty c.args.number (omega arith) in
    let within = leading_within c.args.number c.args.count c.requires.small c.requires.count (omega (arith, some)) in
    rw c.as_bytes-table.ensures.value (omega (arith, within))

pub bounds-table-start-3 : goal.bounds-table-start-3
bounds-table-start-3 c =
    let some = decimal_nonempty c.args.number (omega arith) in
    let within = leading_within c.args.number c.args.count c.requires.small c.requires.count (omega (arith, some)) in
    rw c.as_bytes-table.ensures.value (omega (arith, within))

pub bounds-table-start-4 : goal.bounds-table-start-4
bounds-table-start-4 c =
    let some = decimal_nonempty c.args.number (omega arith) in
    let within = leading_within c.args.number c.args.count c.requires.small c.requires.count (omega (arith, some)) in
    rw c.as_bytes-table.ensures.value (omega (arith, within))

pub returns-clause-digits : goal.returns-clause-digits
returns-clause-digits c =
    let some = decimal_nonempty c.args.number (omega arith) in
    let few = length-decimal-le 3 c.args.number (omega arith) (omega arith) (omega arith) in
    let within = leading_within c.args.number c.args.count c.requires.small c.requires.count (omega (arith, some)) in
    let start = c.args.number * 4 + 4 - c.args.count in
    let read = four_read TRIPLES.now start within in
    rw (c.as_bytes-table.ensures.value, read) (take-take c.args.count 4 (drop start TRIPLES.now) (omega (arith, few)) ∙ leading_entry c.args.number c.args.count c.requires.small c.requires.count)

pub returns-clause-ascii : goal.returns-clause-ascii
returns-clause-ascii c =
    let some = decimal_nonempty c.args.number (omega arith) in
    let within = leading_within c.args.number c.args.count c.requires.small c.requires.count (omega (arith, some)) in
    let start = c.args.number * 4 + 4 - c.args.count in
    let read = four_read TRIPLES.now start within in
    let at = λ (t : List ℕ) (i : ℕ). get_or t i 0 in
    let four = λ (t : List ℕ). at t start ∷ at t (start + 1) ∷ at t (start + 2) ∷ at t (start + 3) ∷ [] in
    let ascii = subst IsAscii (sym read) (IsAscii-take (drop start TRIPLES.now) 4 (IsAscii-drop TRIPLES.now start triples_ascii)) in
    subst (λ (t : List ℕ). IsAscii (four t)) (sym c.as_bytes-table.ensures.value) ascii
