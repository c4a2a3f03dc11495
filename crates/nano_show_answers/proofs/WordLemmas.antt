-- The words of a command line, one by one.
use Rattle.std.proofs.Common.{◌≡◌, ℕ, ◌<◌, List, [], ◌∷◌, cond, length, get_or, map, codes, refl}
use Rattle.std.proofs.Common.{sym, ap, ◌∙◌, arith, Option, Some, None, true, false, String}
use Rattle.std.proofs.Common.{string_bytes, option_to_list}
use Rattle.std.specs.List.{slice_index}
use Rattle.std.specs.Option.{SomeIff, is_some, IsSome}
use Rattle.std.specs.Str.Parse.{digits_value}
use Rattle.std.proofs.Math.ListN.{length-map}
use Rattle.std.proofs.lemmas.List.{get_or-map}
use Rattle.std.specs.Prelude.{bytes_eq}
use Rattle.nano_show_answers.specs.Requests.{texts, Request, code_of_u16s, code_of_text}
use Rattle.nano_show_answers.specs.Requests.{normal_of_input, listing_of_input, form_name}
use Rattle.nano_show_answers.specs.Requests.{kind_name, AskFor}
use Rattle.nano_show_answers.specs.declared.words.Form.{Form}
use Rattle.nano_show_answers.specs.declared.words.Form.TheVariants.{Json, Ron, Bin, JsonWhole}
use Rattle.nano_show_answers.specs.declared.words.Form.TheVariants.{RonWhole, BinWhole}
use Rattle.nano_show_answers.specs.declared.words.Kind.{Kind}
use Rattle.nano_show_answers.specs.declared.words.Kind.TheVariants.{U8, U32, U64, I32, I64, Bool}
use Rattle.nano_show_answers.specs.declared.words.Kind.TheVariants.{Text, Bytes, Set, Map, Tree}
use Rattle.nano_show_answers.specs.declared.words.Kind.TheVariants.{Item, Choice}

pub SomeIff-none : {T : Type 0} (o : Option T) (P : Type 0) (v : T) → SomeIff o P v
    → is_some o ≡ false → P → ⊥
SomeIff-none None P v h e = h
SomeIff-none (Some x) P v h e = absurd (cc)

pub SomeIff-some : {T : Type 0} (o : Option T) (P : Type 0) (v : T) → SomeIff o P v
    → is_some o ≡ true → P
SomeIff-some None P v h e = absurd (cc)
SomeIff-some (Some x) P v h e = h.0

pub SomeIff-IsSome : {T : Type 0} (o : Option T) (P : Type 0) (v : T) → SomeIff o P v → P → IsSome o
SomeIff-IsSome None P v h p = absurd (h p)
SomeIff-IsSome (Some x) P v h p = refl

-- the bytes of the word at a place
pub text_at : {Z : Type 0} (words : List (String Z)) (place : ℕ) (word : String Z)
    (text absent : List ℕ) → place < length words → word ≡ get_or words place word
    → text ≡ string_bytes word → get_or (texts words) place absent ≡ text
text_at words place word text absent below is shown =
    get_or-map (λ w. string_bytes w) words place word absent below
    ∙ (ap (λ w. string_bytes w) (sym is) ∙ sym shown)

pub length-texts : {Z : Type 0} (words : List (String Z)) → length (texts words) ≡ length words
length-texts words = length-map words (λ w. string_bytes w)

-- ---- words that ask for nothing

head : {A : Type 0} {x y : A} {xs ys : List A} → x ∷ xs ≡ y ∷ ys → x ≡ y
head e = cc

tail : {A : Type 0} {x y : A} {xs ys : List A} → x ∷ xs ≡ y ∷ ys → xs ≡ ys
tail e = cc

u16s_is_not_text : codes "u16s" ≡ codes "text" → ⊥
u16s_is_not_text e =
    let heads : 117 ≡ 116 = ap (λ word. slice_index word 0) e in omega (arith, heads)

first_letter : {word other : List ℕ} → word ≡ other → slice_index word 0 ≡ slice_index other 0
first_letter e = ap (λ word. slice_index word 0) e

pub code_is_no_form : (form : Form) → codes "code" ≡ form_name form → ⊥
code_is_no_form Json e = let heads : 99 ≡ 106 = first_letter e in omega (arith, heads)
code_is_no_form Ron e = let heads : 99 ≡ 114 = first_letter e in omega (arith, heads)
code_is_no_form Bin e = let heads : 99 ≡ 98 = first_letter e in omega (arith, heads)
code_is_no_form JsonWhole e = let heads : 99 ≡ 106 = first_letter e in omega (arith, heads)
code_is_no_form RonWhole e = let heads : 99 ≡ 114 = first_letter e in omega (arith, heads)
code_is_no_form BinWhole e = let heads : 99 ≡ 98 = first_letter e in omega (arith, heads)

-- `code` is not `toml`
pub code_is_not_toml : codes "code" ≡ codes "toml" → ⊥
code_is_not_toml e = let heads : 99 ≡ 116 = first_letter e in omega (arith, heads)

two_are_not_one : (words : List (List ℕ)) (first second : List ℕ) → words ≡ first ∷ second ∷ []
    → words ≡ codes "toml" ∷ [] → ⊥
two_are_not_one words first second are e =
    let lengths : 2 ≡ 1 = ap length (sym are ∙ e) in omega (arith, lengths)

-- ---- the words ask for one thing

option_to_list-injective : {A : Type 0} (a b : Option A) → option_to_list a ≡ option_to_list b
    → a ≡ b
option_to_list-injective None None e = refl
option_to_list-injective None (Some y) e = absurd (cc)
option_to_list-injective (Some x) None e = absurd (cc)
option_to_list-injective (Some x) (Some y) e = ap Some (head e)

abbrev form_of : List ℕ → Form
form_of word =
    cond (bytes_eq word (codes "json")) Json
    (cond (bytes_eq word (codes "ron")) Ron
    (cond (bytes_eq word (codes "bin")) Bin
    (cond (bytes_eq word (codes "json-whole")) JsonWhole
    (cond (bytes_eq word (codes "ron-whole")) RonWhole BinWhole))))

of_form_name : (form : Form) → form_of (form_name form) ≡ form
of_form_name Json = refl
of_form_name Ron = refl
of_form_name Bin = refl
of_form_name JsonWhole = refl
of_form_name RonWhole = refl
of_form_name BinWhole = refl

abbrev kind_of : List ℕ → Kind
kind_of word =
    cond (bytes_eq word (codes "u8")) U8
    (cond (bytes_eq word (codes "u32")) U32
    (cond (bytes_eq word (codes "u64")) U64
    (cond (bytes_eq word (codes "i32")) I32
    (cond (bytes_eq word (codes "i64")) I64
    (cond (bytes_eq word (codes "bool")) Bool
    (cond (bytes_eq word (codes "string")) Text
    (cond (bytes_eq word (codes "bytes")) Bytes
    (cond (bytes_eq word (codes "set")) Set
    (cond (bytes_eq word (codes "map")) Map
    (cond (bytes_eq word (codes "tree")) Tree
    (cond (bytes_eq word (codes "item")) Item Choice)))))))))))

of_kind_name : (kind : Kind) → kind_of (kind_name kind) ≡ kind
of_kind_name U8 = refl
of_kind_name U32 = refl
of_kind_name U64 = refl
of_kind_name I32 = refl
of_kind_name I64 = refl
of_kind_name Bool = refl
of_kind_name Text = refl
of_kind_name Bytes = refl
of_kind_name Set = refl
of_kind_name Map = refl
of_kind_name Tree = refl
of_kind_name Item = refl
of_kind_name Choice = refl

one_normal : (form other : Form) (kind second : Kind) → form_name form ∷ kind_name kind ∷ []
    ≡ form_name other ∷ kind_name second ∷ [] → normal_of_input form kind
    ≡ normal_of_input other second
one_normal form other kind second e =
    let forms = sym (of_form_name form) ∙ (ap form_of (head e) ∙ of_form_name other) in
    let kinds = sym (of_kind_name kind) ∙ (ap kind_of (head (tail e)) ∙ of_kind_name second) in
    ap (λ f. normal_of_input f kind) forms ∙ ap (normal_of_input other) kinds

pub one_request : (words : List (List ℕ)) (first second : Request) → AskFor words first
    → AskFor words second → first ≡ second
one_request words (code_of_u16s numbers) (code_of_u16s others) h j =
    ap code_of_u16s (h.values ∙ (ap (map (digits_value 10)) (tail (tail (sym h.are ∙ j.are)))
    ∙ sym j.values))
one_request words (code_of_u16s numbers) (code_of_text text) h j =
    absurd (u16s_is_not_text (head (tail (sym h.are ∙ j))))
one_request words (code_of_u16s numbers) (normal_of_input form kind) h j =
    absurd (code_is_no_form form (head (sym h.are ∙ j)))
one_request words (code_of_text text) (code_of_u16s numbers) h j =
    absurd (u16s_is_not_text (head (tail (sym j.are ∙ h))))
one_request words (code_of_text text) (code_of_text other) h j =
    ap code_of_text (option_to_list-injective text other (tail (tail (sym h ∙ j))))
one_request words (code_of_text text) (normal_of_input form kind) h j =
    absurd (code_is_no_form form (head (sym h ∙ j)))
one_request words (normal_of_input form kind) (code_of_u16s numbers) h j =
    absurd (code_is_no_form form (head (sym j.are ∙ h)))
one_request words (normal_of_input form kind) (code_of_text text) h j =
    absurd (code_is_no_form form (head (sym j ∙ h)))
one_request words (normal_of_input form kind) (normal_of_input other second) h j =
    one_normal form other kind second (sym h ∙ j)
one_request words (code_of_u16s numbers) listing_of_input h j =
    absurd (code_is_not_toml (head (sym h.are ∙ j)))
one_request words (code_of_text text) listing_of_input h j =
    absurd (code_is_not_toml (head (sym h ∙ j)))
one_request words (normal_of_input form kind) listing_of_input h j =
    absurd (two_are_not_one words _ _ h j)
one_request words listing_of_input (code_of_u16s numbers) h j =
    absurd (code_is_not_toml (head (sym j.are ∙ h)))
one_request words listing_of_input (code_of_text text) h j =
    absurd (code_is_not_toml (head (sym j ∙ h)))
one_request words listing_of_input (normal_of_input form kind) h j =
    absurd (two_are_not_one words _ _ j h)
one_request words listing_of_input listing_of_input h j = refl
