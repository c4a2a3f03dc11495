-- What is printed.
use Rattle.std.specs.Prelude.{◌≡◌, ℕ, List}
use Rattle.nano_value.specs.Meaning.{Meaning}
use Rattle.nano_json.specs.Codec.{Codec as JsonCodec}
use Rattle.nano_ron.specs.Codec.{Codec as RonCodec}
use Rattle.nano_text_forms.specs.declared.form.Form.{Form}
use Rattle.nano_text_forms.specs.declared.form.Form.TheVariants.{Json, Ron}
use Rattle.nano_text_forms.specs.Forms.{IsWhole, written}
use Rattle.example_server.specs.declared.settings.Settings.{Settings}

-- the form that a text has not
abbrev pub other_form : Form → Form
other_form Json = Ron
other_form Ron = Json

-- the text is settings, and what is printed is their normal form, in the other form
pub record Converts (json : JsonCodec Settings) (ron : RonCodec Settings)
    (means : Settings → Meaning) (form : Form) (text : List ℕ) (printed : List ℕ) : Type 0 where
  pub settings : Settings
  pub read : IsWhole form json.encoding ron.encoding text (means settings)
  pub is : printed ≡ written (other_form form) json.canonical ron.canonical settings
