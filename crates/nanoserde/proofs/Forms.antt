-- What forms say of their values, in any format where what is written of a value decodes to
-- it.
use Rattle.std.proofs.Common.{◌≡◌, ℕ, List, [], sym, ◌∙◌, subst, refl, append-nil, true}
use Rattle.nano_value.specs.Meaning.{Meaning, Agrees}
use Rattle.nano_bin.specs.Codec.{Codec as BinCodec}
use Rattle.nano_bin_bytes.proofs.CodecLaws.{encodes_written, writes_same}
use Rattle.nano_grammar.proofs.TokensLaws.{CutLaws}
use Rattle.nano_grammar.specs.Tokens.{Cutting}
use Rattle.nano_grammar.specs.Codec.{Codec as TextCodec, Grammar}
use Rattle.nano_grammar.proofs.EncodingLaws.{written_decodes, one_text_decodes}
use Rattle.nanoserde.specs.Promises.{OneForm, FormsTellValues, FormOfForm, ReadBack}
use Rattle.nanoserde.specs.Normal.{NormalForm, BeginsBytes, BeginsText, text_bytes}

-- an input, and what is written, decodes to at most one value; what is written of the value
-- that an input decodes to decodes to that value; and what means the same is written alike
pub record AreForms {A : Type 0} (means : A → Meaning) (fits decodes_written : List ℕ → Meaning → Type 0)
    (written : A → List ℕ) : Type 0 where
  pub one : (input : List ℕ) (m n : Meaning) → fits input m → fits input n → m ≡ n
  pub one_written : (bytes : List ℕ) (m n : Meaning) → decodes_written bytes m → decodes_written bytes n
      → m ≡ n
  pub back : (input : List ℕ) (x : A) → fits input (means x) → decodes_written (written x) (means x)
  pub same : (x y : A) → means x ≡ means y → written x ≡ written y

module _ {A : Type 0} {means : A → Meaning} {fits decodes_written : List ℕ → Meaning → Type 0}
    {written : A → List ℕ} (f : AreForms means fits decodes_written written) where
  pub one_form : OneForm means fits written
  one_form input first second p q =
      let one = f.one input (means p.value) (means q.value) p.fitting q.fitting in
      p.is ∙ (f.same p.value q.value one ∙ sym q.is)

  pub read_back : ReadBack means fits written decodes_written
  read_back input form p =
      subst (λ l. decodes_written l (means p.value)) (sym p.is) (f.back input p.value p.fitting)

  pub tell_values : FormsTellValues means fits written
  tell_values input other first second p q = (
    (λ e.
        let there = subst (λ l. decodes_written l (means p.value)) e (read_back input first p) in
        f.one_written second (means p.value) (means q.value) there (read_back other second q)),
    (λ e. p.is ∙ (f.same p.value q.value e ∙ sym q.is)),
  )

module _ {A : Type 0} {means : A → Meaning} {fits : List ℕ → Meaning → Type 0}
    {written : A → List ℕ} (f : AreForms means fits fits written) where
  pub form_of_form : FormOfForm means fits written
  form_of_form input form again p =
      let own : NormalForm means (fits form) written form =
      record { value = p.value; fitting = read_back f input form p; is = p.is } in (
        (λ q. one_form f form form again own q),
        (λ e. subst (λ l. NormalForm means (fits form) written l) e own),
      )

-- ---- bytes

module _ {A : Type 0} {means : A → Meaning} {legal : Meaning → Type 0} (b : BinCodec A)
    (agrees : Agrees means legal b.canonical.means b.encoding.legal) (is : b.is_decodable ≡ true) where
  one_in_bytes : (bytes : List ℕ) (m n : Meaning) → BeginsBytes b bytes m → BeginsBytes b bytes n
      → m ≡ n
  one_in_bytes bytes m n h k =
      let s = b.encoding.laws in
      let one = s.one_prefix h.prefix k.prefix h.rest k.rest m n h.is_encoded k.is_encoded
      (sym h.whole ∙ k.whole) in
      s.one_value k.prefix m n (subst (λ l. b.encoding.encodes l m) one h.is_encoded) k.is_encoded

  written_begins : (x : A) → legal (means x)
      → BeginsBytes b (b.canonical.written x) (means x)
  written_begins x h = record {
    prefix = b.canonical.written x;
    rest = [];
    whole = sym (append-nil (b.canonical.written x));
    is_encoded = encodes_written b agrees is x h;
  }

  pub bytes_are_forms : AreForms means (BeginsBytes b) (BeginsBytes b) b.canonical.written
  bytes_are_forms = record {
    one = one_in_bytes;
    one_written = one_in_bytes;
    back = λ input x h.
        written_begins x
        (agrees.is_legal (means x) (b.encoding.laws.is_legal h.prefix (means x) h.is_encoded));
    same = writes_same b agrees;
  }

  -- ---- the bytes of the value of a text

  module _ {T : Type 0} {c : Cutting T} {g : Grammar T} (r : CutLaws c g) (t : TextCodec c g A)
      (text_agrees : Agrees means legal t.canonical.means t.encoding.legal) where
    pub texts_as_bytes : AreForms means (BeginsText t) (BeginsBytes b) b.canonical.written
    texts_as_bytes = record {
      one = λ input. one_text_decodes r t.encoding.laws _;
      one_written = one_in_bytes;
      back = λ input x h.
          written_begins x
          (text_agrees.is_legal (means x) (t.encoding.laws.is_legal h.2.0 (means x) h.2.2));
      same = writes_same b agrees;
    }

-- ---- texts

module _ {A : Type 0} {T : Type 0} {c : Cutting T} {g : Grammar T} (r : CutLaws c g)
    (t : TextCodec c g A) where
  -- what is written of a value that a text decodes to decodes to that value
  text_back : (input : List ℕ) (x : A) → BeginsText t input (t.canonical.means x)
      → BeginsText t (text_bytes t x) (t.canonical.means x)
  text_back input x h =
      let m = t.canonical.means x in
      let legal = t.encoding.laws.is_legal h.2.0 m h.2.2 in
      let sound = t.encoded_is_sound x h.2.0 h.2.2 in
      written_decodes r t.encoding.encodes (t.canonical.tokens x) (t.canonical.text 0 x) (text_bytes t x) m
      (t.is_written x legal 0) refl (t.reads_back x legal sound)

  own_texts_are_forms : AreForms t.canonical.means (BeginsText t) (BeginsText t) (text_bytes t)
  own_texts_are_forms = record {
    one = λ input. one_text_decodes r t.encoding.laws _;
    one_written = λ input. one_text_decodes r t.encoding.laws _;
    back = text_back;
    same = λ x y e i. Rattle.std.proofs.Common.encode_utf8_all (t.canonical.same_text x y e 0 i);
  }

  pub texts_are_forms : {means : A → Meaning} {legal : Meaning → Type 0}
      → Agrees means legal t.canonical.means t.encoding.legal
      → AreForms means (BeginsText t) (BeginsText t) (text_bytes t)
  texts_are_forms agrees =
      subst (λ m. AreForms m (BeginsText t) (BeginsText t) (text_bytes t)) agrees.means_is
      own_texts_are_forms
