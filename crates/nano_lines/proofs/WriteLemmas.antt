-- What a writer got so far.
use Rattle.std.proofs.Common.{◌≡◌, ◌≢◌, ℕ, List, [], ◌∷◌, ◌++◌, take, drop, refl, sym, ap, ◌∙◌, append_assoc, take-append-drop, Option, encode_utf8_all}
use Rattle.std.specs.Io.KnownBytes.{Appends, Keeps}
use Rattle.std.proofs.KnownBytes.{Appends-nil, Appends-trans, Appends-kept}
use Rattle.nano_text.specs.Characters.{line_feed}
use Rattle.nano_lines.specs.declared.error.Fault.{Fault}
use Rattle.nano_lines.specs.declared.error.Fault.TheVariants.{Feed, Stream}
use Rattle.nano_lines.specs.Writes.{WritesUpTo, line_of, IsNotMade, PutFails}

-- nothing was written
pub WritesUpTo-nothing : (a : Option (List ℕ)) (bytes : List ℕ) → WritesUpTo bytes a a bytes
WritesUpTo-nothing a bytes = record { prefix = []; whole = refl; written = Appends-nil a }

-- a line has its line feed at least
append_is_some : (xs : List ℕ) → xs ++ line_feed ∷ [] ≢ []
append_is_some [] e = cc
append_is_some (x ∷ xs) e = cc

module _ (a b c : Option (List ℕ)) (bytes rest : List ℕ) (so_far : WritesUpTo rest a b bytes) where
  -- one more write took so many bytes of the rest
  pub WritesUpTo-more : (count : ℕ) (next : List ℕ) → next ≡ drop count rest
      → Appends b c (take count rest) → WritesUpTo next a c bytes
  WritesUpTo-more count next left h = record {
    prefix = so_far.prefix ++ take count rest;
    whole =
        so_far.whole ∙ (ap (λ l. so_far.prefix ++ l)
        (sym (take-append-drop count rest) ∙ ap (λ l. take count rest ++ l) (sym left))
        ∙ sym (append_assoc so_far.prefix (take count rest) next));
    written = Appends-trans a b c so_far.prefix (take count rest) so_far.written h;
  }

  -- one more write took nothing
  pub WritesUpTo-unchanged : Keeps b c → WritesUpTo rest a c bytes
  WritesUpTo-unchanged h =
      record {
        prefix = so_far.prefix;
        whole = so_far.whole;
        written = Appends-kept a b c so_far.prefix so_far.written h;
      }

-- where the line is not made, nothing is written
pub not_made : (text : List ℕ) (a : Option (List ℕ)) (fault : Fault) → IsNotMade text fault → PutFails text a a fault
not_made text a Feed h = record { broken = h; unchanged = Appends-nil a }
not_made text a (Stream error) h = record {
  rest = line_of text;
  some = append_is_some (encode_utf8_all text);
  written = WritesUpTo-nothing a (line_of text);
  retried = h;
}
not_made text a _ h = absurd h
