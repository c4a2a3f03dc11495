-- A type of values that are shown: what they mean, and how they stand in each format.
use Rattle.std.specs.Prelude.{◌≡◌, ℕ, List, true}
use Rattle.nanoserde.specs.Meaning.{Meaning, Agrees}
use Rattle.nanoserde.specs.BinCodec.{Codec as BinCodec}
use Rattle.nanoserde.specs.JsonCodec.{Codec as JsonCodec}
use Rattle.nanoserde.specs.RonCodec.{Codec as RonCodec}
use Rattle.nanoserde.specs.Normal.{NormalBytes, NormalJson, NormalRon}
use Rattle.nano_show_answers.specs.declared.words.Form.{Form}
use Rattle.nano_show_answers.specs.declared.words.Form.TheVariants.{Json, Ron, Bin, JsonWhole}
use Rattle.nano_show_answers.specs.declared.words.Form.TheVariants.{RonWhole, BinWhole}
use Rattle.nano_show_answers.specs.declared.words.Kind.{Kind}
use Rattle.nano_show_answers.specs.declared.words.Kind.TheVariants.{U8, U32, U64, I32, I64, Bool}
use Rattle.nano_show_answers.specs.declared.words.Kind.TheVariants.{Text, Bytes, Set, Map, Tree}
use Rattle.nano_show_answers.specs.declared.words.Kind.TheVariants.{Item, Choice}
use Rattle.nano_show_answers.specs.Requests.{WholeBytes, WholeJson, WholeRon}

pub record Shown : Type 1 where
  pub Value : Type 0
  pub means : Value → Meaning
  pub legal : Meaning → Type 0
  pub bin : BinCodec Value
  pub json : JsonCodec Value
  pub ron : RonCodec Value

-- each format is of what the values mean, and of the meanings that are legal; bytes are read too
pub record IsAgreed (type : Shown) : Type 0 where
  pub bin : Agrees type.means type.legal type.bin.canonical.means type.bin.encoding.legal
  pub json : Agrees type.means type.legal type.json.canonical.means type.json.encoding.legal
  pub ron : Agrees type.means type.legal type.ron.canonical.means type.ron.encoding.legal
  pub bin_is_decodable : type.bin.is_decodable ≡ true

abbrev pub shown_as : {A : Type 0} → (A → Meaning) → (Meaning → Type 0) → BinCodec A
    → JsonCodec A → RonCodec A → Shown
shown_as {A} means legal bin json ron = record {
  Value = A;
  means = means;
  legal = legal;
  bin = bin;
  json = json;
  ron = ron;
}

-- the normal form of an input in a format
abbrev pub IsNormal : Form → Shown → List ℕ → List ℕ → Type 0
IsNormal Json type input form = NormalJson type.means type.json input form
IsNormal Ron type input form = NormalRon type.means type.ron input form
IsNormal Bin type input form = NormalBytes type.means type.bin input form
IsNormal JsonWhole type input form = WholeJson type.means type.json input form
IsNormal RonWhole type input form = WholeRon type.means type.ron input form
IsNormal BinWhole type input form = WholeBytes type.means type.bin input form

-- the type of each name
module _ (u8 u32 u64 i32 i64 bool text bytes set map tree item choice : Shown) where
  abbrev pub by_kind : Kind → Shown
  by_kind U8 = u8
  by_kind U32 = u32
  by_kind U64 = u64
  by_kind I32 = i32
  by_kind I64 = i64
  by_kind Bool = bool
  by_kind Text = text
  by_kind Bytes = bytes
  by_kind Set = set
  by_kind Map = map
  by_kind Tree = tree
  by_kind Item = item
  by_kind Choice = choice

-- it holds of each name
abbrev pub OfEachKind : (Kind → Type 0) → Type 0
OfEachKind P =
    P U8 × P U32 × P U64 × P I32 × P I64 × P Bool × P Text
    × P Bytes × P Set × P Map × P Tree × P Item × P Choice
