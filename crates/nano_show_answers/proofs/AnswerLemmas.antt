-- What was written so far, and that it is the answer.
use Rattle.std.proofs.Common.{◌≡◌, ℕ, List, [], ◌++◌, take, drop, refl, sym, ap, ◌∙◌, append_assoc}
use Rattle.std.proofs.Common.{take-append-drop, Option, Some, None, IfSome, unwrap_or, subst}
use Rattle.std.specs.Io.KnownBytes.{Appends, Keeps}
use Rattle.std.proofs.KnownBytes.{Appends-trans, Appends-kept}
use Rattle.nano_show_answers.specs.Requests.{Request, code_of_u16s, code_of_text, normal_of_input}
use Rattle.nano_show_answers.specs.Requests.{listing_of_input, request_of}
use Rattle.nano_show_answers.proofs.WordLemmas.{one_request}
use Rattle.nano_json.proofs.Json.{json_laws}
use Rattle.nano_ron.proofs.Ron.{ron_laws}
use Rattle.nano_bin_bytes.proofs.CodecLaws.{writes_same}
use Rattle.nano_json.specs.Token.{end as json_end}
use Rattle.nano_ron.specs.Token.{end as ron_end}
use Rattle.nano_grammar.proofs.WholeInputs.{one_whole}
use Rattle.nanoserde.specs.Meaning.{Meaning}
use Rattle.nanoserde.specs.Normal.{NormalForm}
use Rattle.nanoserde.proofs.Forms.{texts_are_forms, bytes_are_forms, one_form}
use Rattle.nano_show_answers.specs.declared.words.Form.{Form}
use Rattle.nano_show_answers.specs.declared.words.Form.TheVariants.{Json, Ron, Bin, JsonWhole}
use Rattle.nano_show_answers.specs.declared.words.Form.TheVariants.{RonWhole, BinWhole}
use Rattle.nano_show_answers.specs.declared.words.Kind.{Kind}
use Rattle.nano_show_answers.specs.declared.words.Kind.TheVariants.{U8, U32, U64, I32, I64, Bool}
use Rattle.nano_show_answers.specs.declared.words.Kind.TheVariants.{Text, Bytes, Set, Map, Tree}
use Rattle.nano_show_answers.specs.declared.words.Kind.TheVariants.{Item, Choice}
use Rattle.nano_show_answers.specs.declared.words.Command.{Command}
use Rattle.nano_show_answers.specs.declared.fault.ShowFault.{ShowFault}
use Rattle.std.specs.Prelude.{Result, Vec}
use Rattle.std.specs.Global.{Global}
use Rattle.nano_show_answers.specs.Shown.{Shown, IsAgreed, OfEachKind}
use Rattle.nano_show_answers.specs.Listing.{line, hex_pairs, listing}
use Rattle.nano_toml.specs.Place.{remaining_text}
use Rattle.nano_toml.proofs.OneTable.{encodes_one_table}
use Rattle.nano_show_answers.specs.Answer.{AnswersInput, Answers, IsListing, IsTextLine}
use Rattle.nano_show_answers.specs.Answer.{IsBytesLine, IsNormalLine, IsAnswerTo, WritesUpTo}
use Rattle.nano_show_answers.specs.Answer.{OneAnswer, AnswerOrRejection}

module _ (a b c : Option (List ℕ)) (bytes rest : List ℕ) (so_far : WritesUpTo rest a b bytes) where
  -- one more write took so many bytes of the rest
  pub WritesUpTo-more : (count : ℕ) (next : List ℕ) → next ≡ drop count rest
      → Appends b c (take count rest) → WritesUpTo next a c bytes
  WritesUpTo-more count next left h = record {
    prefix = so_far.prefix ++ take count rest;
    whole =
        so_far.whole ∙ (ap (λ l. so_far.prefix ++ l)
        (sym (take-append-drop count rest) ∙ ap (λ l. take count rest ++ l) (sym left))
        ∙ sym (append_assoc so_far.prefix (take count rest) next));
    written = Appends-trans a b c so_far.prefix (take count rest) so_far.written h;
  }

  -- one more write took nothing
  pub WritesUpTo-unchanged : Keeps b c → WritesUpTo rest a c bytes
  WritesUpTo-unchanged h =
      record {
        prefix = so_far.prefix;
        whole = so_far.whole;
        written =
            Appends-kept a b c so_far.prefix so_far.written h;
      }

given_input : (known : Option (List ℕ)) → IfSome known (λ bytes. unwrap_or known [] ≡ bytes)
given_input None = tt
given_input (Some bytes) = refl

-- what answers a request whatever the input is the answer
pub IsAnswerTo-any_input : (types : Kind → Shown) (known : Option (List ℕ)) (request : Request)
    (answer : List ℕ) → ((input : List ℕ) → Answers types request input answer)
    → IsAnswerTo types request known answer
IsAnswerTo-any_input types known request answer answers = record {
  input = unwrap_or known [];
  given = given_input known;
  answers = answers (unwrap_or known []);
}

-- what answers a command is known by what the command is
pub command_at : {types : Kind → Shown} {known : Option (List ℕ)} (command is : Command)
    → command ≡ is → (answer : List ℕ)
    → ((input : List ℕ) → Answers types (request_of is) input answer)
    → IsAnswerTo types (request_of command) known answer
command_at {types} {known} command is e answer answers =
    subst (λ c. IsAnswerTo types (request_of c) known answer) (sym e)
    (IsAnswerTo-any_input types known (request_of is) answer answers)

-- and so it is for a format and for a type
pub line_at_form : (type : Shown) (input : List ℕ) (form is : Form) → form ≡ is
    → (result : Result (Vec ℕ Global) ShowFault) → AnswersInput (IsNormalLine is type) input result
    → AnswersInput (IsNormalLine form type) input result
line_at_form type input form is e result h =
    subst (λ f. AnswersInput (IsNormalLine f type) input result) (sym e) h

pub line_at_kind : (types : Kind → Shown) (form : Form) (input : List ℕ) (kind is : Kind)
    → kind ≡ is → (result : Result (Vec ℕ Global) ShowFault)
    → AnswersInput (IsNormalLine form (types is)) input result
    → AnswersInput (IsNormalLine form (types kind)) input result
line_at_kind types form input kind is e result h =
    subst (λ k. AnswersInput (IsNormalLine form (types k)) input result) (sym e) h

-- ---- laws

pub every_kind : (P : Kind → Type 0) → OfEachKind P → (kind : Kind) → P kind
every_kind P p U8 = p.0
every_kind P p U32 = p.1
every_kind P p U64 = p.2
every_kind P p I32 = p.3
every_kind P p I64 = p.4
every_kind P p Bool = p.5
every_kind P p Text = p.6
every_kind P p Bytes = p.7
every_kind P p Set = p.8
every_kind P p Map = p.9
every_kind P p Tree = p.10
every_kind P p Item = p.11
every_kind P p Choice = p.12

module _ {normal : List ℕ → List ℕ → Type 0}
    (one : (input first second : List ℕ) → normal input first → normal input second
    → first ≡ second) where
  one_text_line : (input first second : List ℕ) → IsTextLine normal input first
      → IsTextLine normal input second → first ≡ second
  one_text_line input first second h j =
      h.is ∙ (ap line (one input h.text j.text h.is_normal j.is_normal) ∙ sym j.is)

  one_bytes_line : (input first second : List ℕ) → IsBytesLine normal input first
      → IsBytesLine normal input second → first ≡ second
  one_bytes_line input first second h j =
      h.is ∙ (ap (λ bytes. line (hex_pairs bytes))
      (one input h.bytes j.bytes h.is_normal j.is_normal) ∙ sym j.is)

-- where an input decodes to one value, it has one normal form
one_whole_form : {A : Type 0} {means : A → Meaning} {fits : Meaning → Type 0} {written : A → List ℕ}
    → ((m n : Meaning) → fits m → fits n → m ≡ n)
    → ((x y : A) → means x ≡ means y → written x ≡ written y) → (first second : List ℕ)
    → NormalForm means fits written first → NormalForm means fits written second → first ≡ second
one_whole_form {means = means} one same first second p q =
    let values = one (means p.value) (means q.value) p.fitting q.fitting in
    p.is ∙ (same p.value q.value values ∙ sym q.is)

one_normal_line : (form : Form) (type : Shown) → IsAgreed type → (input first second : List ℕ)
    → IsNormalLine form type input first → IsNormalLine form type input second → first ≡ second
one_normal_line Json type agreed =
    one_text_line (one_form (texts_are_forms json_laws type.json agreed.json))
one_normal_line Ron type agreed =
    one_text_line (one_form (texts_are_forms ron_laws type.ron agreed.ron))
one_normal_line Bin type agreed =
    one_bytes_line (one_form (bytes_are_forms type.bin agreed.bin agreed.bin_is_decodable))
one_normal_line JsonWhole type agreed =
    one_text_line (λ input. one_whole_form
    (one_whole json_laws type.json.encoding.laws json_end input)
    (texts_are_forms json_laws type.json agreed.json).same)
one_normal_line RonWhole type agreed =
    one_text_line (λ input. one_whole_form
    (one_whole ron_laws type.ron.encoding.laws ron_end input)
    (texts_are_forms ron_laws type.ron agreed.ron).same)
one_normal_line BinWhole type agreed =
    one_bytes_line (λ input. one_whole_form (type.bin.encoding.laws.one_value input)
    (writes_same type.bin agreed.bin))

one_listing : (input first second : List ℕ) → IsListing input first → IsListing input second
    → first ≡ second
one_listing input first second h j =
    h.is ∙ (ap listing (encodes_one_table (remaining_text input) h.pairs j.pairs h.is_encoded j.is_encoded)
    ∙ sym j.is)

module _ (types : Kind → Shown) (agreed : (kind : Kind) → IsAgreed (types kind)) where
  one_answer_of_request : (request : Request) (input first second : List ℕ)
      → Answers types request input first → Answers types request input second → first ≡ second
  one_answer_of_request (code_of_u16s numbers) input first second h j = h ∙ sym j
  one_answer_of_request (code_of_text text) input first second h j = h ∙ sym j
  one_answer_of_request (normal_of_input form kind) input first second h j =
      one_normal_line form (types kind) (agreed kind) input first second h j
  one_answer_of_request listing_of_input input first second h j = one_listing input first second h j

  pub one_answer : OneAnswer types
  one_answer words input first second h j =
      let same = one_request words h.request j.request h.asked j.asked in
      let given = h.is.given ∙ sym j.is.given in
      one_answer_of_request j.request j.is.input first second
      (subst (λ bytes. Answers types j.request bytes first) given
      (subst (λ request. Answers types request h.is.input first) same h.is.answers)) j.is.answers

pub answer_or_rejection : (types : Kind → Shown) → AnswerOrRejection types
answer_or_rejection types words input answer h j =
    let same = one_request words h.request j.request h.asked j.asked in
    let given = h.is.given ∙ sym j.is.given in
    j.is.nothing answer (subst (λ bytes. Answers types j.request bytes answer) given
    (subst (λ request. Answers types request h.is.input answer) same h.is.answers))
