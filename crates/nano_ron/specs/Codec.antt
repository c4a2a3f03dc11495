-- How the values of a type are written as RON and which tokens encode them, together.
use Rattle.std.specs.Prelude.{List}
use Rattle.nano_grammar.specs.Codec.{Codec as CodecOf}
use Rattle.nano_grammar.specs.BaseCodecs.{codec_as as as_seen}
use Rattle.nano_grammar.specs.Codec.{Canonical as CanonicalOf, BeginsValue as Begins}
use Rattle.nano_grammar.specs.Codec.{Encoding as EncodingOf, StartsWith as Starts}
use Rattle.nano_ron_tokens.proofs.RonLaws.{ron}
use Rattle.nano_ron_tokens.specs.Cut.{ron_grammar, Cut}
use Rattle.nano_grammar.specs.Tokens.{At, DecodesToNothing as Nothing}
use Rattle.nano_ron_tokens.specs.Token.{Token}

-- what is written of a sound value is read back as what it means
abbrev pub Codec : Type 0 → Type 1
Codec A = CodecOf ron ron_grammar A

-- a type whose values are seen as those of another
abbrev pub codec_as : {A B : Type 0} → (A → B) → Codec B → Codec A
codec_as view f = as_seen view f

-- ==== how the values of a type are written as RON

-- the text of each value at each level, and the tokens that it is cut into
abbrev pub Canonical : Type 0 → Type 1
Canonical A = CanonicalOf ron A

-- ==== which tokens encode the values of a type

-- how the values of a type are encoded, by what they mean, with the laws of the encoding
abbrev pub Encoding : Type 1
Encoding = EncodingOf ron_grammar

-- the tokens have a first one, and it may begin a value
abbrev pub BeginsValue : List Token → Type 0
BeginsValue = Begins ron_grammar

-- the tokens begin with this one
abbrev pub StartsWith : Token → List Token → Type 0
StartsWith t ts = Starts t ts

-- no encoding of a value stands here, with one more token or the end after it
abbrev pub DecodesToNothing : {V : Type 0} → (List Token → V → Type 0) → At Token → Type 0
DecodesToNothing encodes start = Nothing Cut encodes start
