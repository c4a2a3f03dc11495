-- What is saved.
use Rattle.std.specs.Prelude.{◌≡◌, ℕ, List}
use Rattle.nano_value.specs.Meaning.{Meaning}
use Rattle.nano_json.specs.Codec.{Codec as JsonCodec}
use Rattle.nano_ron.specs.Codec.{Codec as RonCodec}
use Rattle.nano_text_forms.specs.declared.form.Form.{Form}
use Rattle.nano_text_forms.specs.Forms.{IsWhole, written}
use Rattle.example_save_file.specs.declared.state.State.{State}

-- the text is a state, and what is saved is the normal form of that state with these coins
pub record Saves (json : JsonCodec State) (ron : RonCodec State) (means : State → Meaning)
    (form : Form) (text : List ℕ) (coins : ℕ) (saved : List ℕ) : Type 0 where
  pub state : State
  pub read : IsWhole form json.encoding ron.encoding text (means state)
  pub is : saved ≡ written form json.canonical ron.canonical (record state { coins = coins })
