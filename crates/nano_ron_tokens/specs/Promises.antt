-- Laws of the definitions.
use Rattle.std.specs.Prelude.{◌≡◌, ◌↔◌, ℕ, List, [], ◌∷◌, ◌++◌}
use Rattle.nano_grammar.specs.Tokens.{At, BeginsAt, Leaves, IsOneWay}
use Rattle.nano_ron_tokens.specs.Token.{Token, ident, paren_open, end}
use Rattle.nano_ron_tokens.specs.Cut.{Cut, IsGap, IsUnended}
use Rattle.nano_ron_tokens.specs.Breaks.{Breaks}
use Rattle.nano_ron_tokens.specs.Skipped.{SkippedField}

-- a text is cut in one way: one token, one rest
abbrev pub CutsOneWay : Type 0
CutsOneWay = IsOneWay Cut

-- the end is cut where a gap, and after it at most a comment that has no end, are the whole
-- text, and leaves nothing
abbrev pub EndsAfterGaps : Type 0
EndsAfterGaps = (text rest : List ℕ) → Cut text end rest
    ↔ (((gap following : List ℕ) × IsGap gap × IsUnended following × (text ≡ gap ++ following))
    × (rest ≡ []))

-- a gap before a token changes nothing
abbrev pub GapsAreSkipped : Type 0
GapsAreSkipped = (gap text rest : List ℕ) (t : Token) → IsGap gap
    → (Cut text t rest ↔ Cut (gap ++ text) t rest)

-- taking tokens up to another one is the same as beginning with them and that one
abbrev pub TakenTokensBegin : Type 0
TakenTokensBegin = (ts : List Token) (next : Token) (start : At Token)
    → ((rest : List ℕ) × Leaves Cut ts start (record { token = next; text = rest }))
    ↔ BeginsAt Cut (ts ++ next ∷ []) start

-- a skipped field that begins another is a word, and goes on with an opening parenthesis
abbrev pub SkippedFieldsGoOn : Type 0
SkippedFieldsGoOn = (field more : List Token) (next : Token)
    → SkippedField field → SkippedField (field ++ next ∷ more)
    → ((name : List ℕ) × (field ≡ ident name ∷ [])) × (next ≡ paren_open)

-- where no token is cut from a text, a reader goes to one place
abbrev pub BreaksOnce : Type 0
BreaksOnce = (text rest left : List ℕ) → Breaks text rest → Breaks text left → rest ≡ left

-- and no text both breaks and has a token cut from it
abbrev pub BreaksOrCuts : Type 0
BreaksOrCuts = (text rest left : List ℕ) (token : Token)
    → Breaks text rest → Cut text token left → ⊥
