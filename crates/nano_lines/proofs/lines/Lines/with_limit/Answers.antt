use Rattle.std.proofs.Common.{refl, sym, ap, ◌++◌, List, ℕ, []}
use Rattle.std.proofs.lemmas.Bool.{false≢true}
use Rattle.nano_lines.proofs.lines.Lines.with_limit.Goals as goal

pub returns : goal.returns
returns g c = record {
  left = λ s known. record {
    lost = [];
    coming = s;
    are_lost = record { none = λ _. refl; beyond = λ e. absurd (false≢true e); one_line = tt };
    known = known;
    whole = ap (λ (x : List ℕ). x ++ s) (sym c.in_ok-new.ensures);
  };
  number = refl;
  limit_is = refl;
  whole = refl;
}
