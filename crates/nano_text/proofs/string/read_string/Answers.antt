use Rattle.std.proofs.Common.{◌≡◌, ℕ, List, arith, refl, subst, sym, ◌∙◌, OnOk, string_bytes}
use Rattle.std.proofs.Common.{encode_utf8_all}
use Rattle.nano_text.specs.Place.{text_at}
use Rattle.nano_text.proofs.PlaceLaws.{moves_append, moves_from}
use Rattle.nano_text.proofs.RemainingText.{same_remaining}
use Rattle.nano_text.specs.String.{IsString}
use Rattle.nano_text.specs.Breaks.{BreaksString}
use Rattle.nano_text.proofs.string.read_string.Goals as goal
use Rattle.nano_text.proofs.string.read_string.Goals.{After-read_pieces-read}

-- the pieces are read from what was there
same_text : (c : After-read_pieces-read) → text_at c.read_at_once.new.p c.chars-rest.result ≡ text_at c.args.p.now c.args.i.now
same_text c =
    let unchanged = c.read_at_once.ensures.unchanged c.if-read_at_once.false in
    same_remaining _ c.chars-rest.result c.read_at_once.new.i (c.chars-rest.ensures.rest ∙ c.as_str.ensures) ∙ rw (unchanged.0, unchanged.1) refl

pub returns-clause-found : goal.returns-clause-found
returns-clause-found c =
    subst (λ (t : List ℕ). OnOk c.read_pieces-read.result ((characters : List ℕ) × IsString t characters (text_at c.read_pieces-read.new.p c.read_pieces-read.new.i)
    × (string_bytes c.read_pieces-read.new.strbuf ≡ encode_utf8_all characters))) (same_text c) c.read_pieces-read.ensures.found

pub returns-clause-memory : goal.returns-clause-memory
returns-clause-memory c error characters rest string =
    omega (arith, c.read_at_once.ensures.capacity, c.read_pieces-read.ensures.memory error characters rest (subst (λ (t : List ℕ). IsString t characters rest) (sym (same_text c)) string))

pub returns-clause-malformed : goal.returns-clause-malformed
returns-clause-malformed c error characters rest string =
    c.read_pieces-read.ensures.malformed error characters rest (subst (λ (t : List ℕ). IsString t characters rest) (sym (same_text c)) string)

pub returns-clause-place : goal.returns-clause-place
returns-clause-place c =
    moves_append c.read_at_once.ensures.place
    (moves_from _ _ c.chars-rest.result c.read_at_once.new.i _ (c.chars-rest.ensures.rest ∙ c.as_str.ensures) c.read_pieces-read.ensures.place)

pub returns-clause-breaks : goal.returns-clause-breaks
returns-clause-breaks c error =
    subst (λ (t : List ℕ). BreaksString t (text_at c.read_pieces-read.new.p c.read_pieces-read.new.i)) (same_text c)
    (c.read_pieces-read.ensures.breaks error)
