-- What is read from the text of another value.
use Rattle.std.proofs.Common.{◌≡◌, ℕ, true, List, encode_utf8_all, sym, ap, subst}
use Rattle.std.specs.Prelude.{Result, MatchResult}
use Rattle.std.proofs.lemmas.Bool.{true_from_ne_false}
use Rattle.std.proofs.lemmas.Result.{MatchResult-weaker}
use Rattle.nano_value.specs.Meaning.{Meaning}
use Rattle.nano_grammar.specs.Codec.{IsEncoding}
use Rattle.nano_grammar.specs.Tokens.{IsValueText}
use Rattle.nano_grammar.proofs.WholeInputs.{written_whole, one_whole}
use Rattle.nano_json.specs.Readers.{ReadsWhole}
use Rattle.nano_json.proofs.Json.{json_laws}
use Rattle.nano_json_tokens.specs.Cut.{json_grammar}
use Rattle.nano_json_tokens.specs.Token.{Token, end}
use Rattle.nano_json_tokens.specs.declared.error.DeJsonErr.{DeJsonErr}
use Rattle.nano_json_tokens.proofs.JsonLaws.{json}
use Rattle.nano_document.specs.Documents.{json_means}
use Rattle.nano_document.specs.DocumentCodecs.{json_codec}
use Rattle.nano_document.specs.declared.json.Json.{Json}
use Rattle.nano_document.specs.Conversions.{ReadsAll, IsWrittenDocument}

module _ {A : Type 0} (encodes : List Token → Meaning → Type 0) (means : A → Meaning) where
  -- what is read from a text is what its tokens encode
  pub reads_all : {P : Meaning → Type 0} → IsEncoding json_grammar P encodes
      → (ts : List Token) (bytes text : List ℕ) (result : Result A DeJsonErr)
      → bytes ≡ encode_utf8_all text → IsValueText json ts text
      → ReadsWhole encodes means bytes result → ReadsAll encodes means ts result
  reads_all laws ts bytes text result is written h =
      MatchResult-weaker result h
      (λ x found m encoded. one_whole json_laws laws end bytes m (means x) (written_whole json_laws laws ts text bytes m written is encoded) found)
      (λ e none known m encoded. none.rejected known m (written_whole json_laws laws ts text bytes m written is encoded))

  -- a value is read from the document that was made of it
  pub leads_back : {P : Meaning → Type 0} → IsEncoding json_grammar P encodes
      → (ts : List Token) (x made : Json) (m : Meaning) (result : Result A DeJsonErr)
      → IsWrittenDocument ts x → json_means x ≡ json_means made → encodes ts m
      → ReadsWhole encodes means (encode_utf8_all (json_codec.canonical.text 0 made)) result
      → MatchResult result (λ read. means read ≡ m) (λ e. e.memory ≡ true)
  leads_back laws ts x made m result is same encoded h =
      let bytes = encode_utf8_all (json_codec.canonical.text 0 made) in
      let text = json_codec.canonical.text 0 x in
      let legal = json_codec.encoding.laws.is_legal ts (json_means x) is.encoded in
      let written = subst (λ (us : List Token). IsValueText json us text) is.written (json_codec.is_written x legal 0) in
      let as_made : bytes ≡ encode_utf8_all text = ap encode_utf8_all (sym (json_codec.canonical.same_text x made same 0)) in
      let fits = written_whole json_laws laws ts text bytes m written as_made encoded in
      MatchResult-weaker result h
      (λ read found. one_whole json_laws laws end bytes (means read) m found fits)
      (λ e none. true_from_ne_false e.memory (λ known. none.rejected known m fits))
