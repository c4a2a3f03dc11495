-- What a writer of lines gets.
use Rattle.std.specs.Prelude.{◌≡◌, ◌≢◌, ℕ, List, [], ◌∷◌, ◌++◌, Option, String}
use Rattle.std.specs.Prelude.{encode_utf8_all, string_bytes}
use Rattle.std.specs.Io.KnownBytes.{Appends}
use Rattle.std.specs.IoError.{error_kind}
use Rattle.std.specs.declared.io.Error.{Error}
use Rattle.std.specs.declared.io.ErrorKind.TheVariants.{Interrupted}
use Rattle.nano_text.specs.Characters.{line_feed}
use Rattle.nano_lines.specs.declared.error.Fault.{Fault}
use Rattle.nano_lines.specs.declared.error.Fault.TheVariants.{Feed, Stream}
use Rattle.nano_lines.specs.Lines.{HasNoFeed}

-- the line of a text, with its line feed
abbrev pub line_of : List ℕ → List ℕ
line_of text = encode_utf8_all text ++ line_feed ∷ []

-- a writer got the line of this text, which is one line, and nothing else
pub record AppendsLine (text : List ℕ) (old new : Option (List ℕ)) : Type 0 where
  pub one_line : HasNoFeed (encode_utf8_all text)
  pub written : Appends old new (line_of text)

-- a writer got the bytes up to a rest, and nothing else
pub record WritesUpTo (rest : List ℕ) (old new : Option (List ℕ)) (bytes : List ℕ)
    : Type 0 where
  pub prefix : List ℕ
  pub whole : bytes ≡ prefix ++ rest
  pub written : Appends old new prefix

-- an error of a writer, which got the bytes up to a rest that is not empty, and nothing else; a
-- write that was interrupted is tried again
pub record WriteStops (bytes : List ℕ) (old new : Option (List ℕ)) (error : Error) : Type 0 where
  pub rest : List ℕ
  pub some : rest ≢ []
  pub written : WritesUpTo rest old new bytes
  pub retried : error_kind error ≢ Interrupted

-- the text is no line, and nothing was written
pub record IsNoLine (text : List ℕ) (old new : Option (List ℕ)) : Type 0 where
  pub broken : HasNoFeed (encode_utf8_all text) → ⊥
  pub unchanged : Appends old new []

-- the line of a text, which is one line
pub record IsLineText {Y : Type 0} (text : List ℕ) (line : String Y) : Type 0 where
  pub one_line : HasNoFeed (encode_utf8_all text)
  pub is : string_bytes line ≡ line_of text

-- why the line of a text is not made: the text is no line, or memory ran out
abbrev pub IsNotMade : List ℕ → Fault → Type 0
IsNotMade text Feed = HasNoFeed (encode_utf8_all text) → ⊥
IsNotMade text (Stream error) = error_kind error ≢ Interrupted
IsNotMade text _ = ⊥

-- why the line of a text is not written whole, and what was
abbrev pub PutFails : List ℕ → Option (List ℕ) → Option (List ℕ) → Fault → Type 0
PutFails text old new Feed = IsNoLine text old new
PutFails text old new (Stream error) = WriteStops (line_of text) old new error
PutFails text old new _ = ⊥
