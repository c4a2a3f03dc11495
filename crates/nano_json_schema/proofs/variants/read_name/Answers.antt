use Rattle.std.proofs.Common.{◌≡◌, List, [], ◌∷◌, ◌++◌, ap, sym, ◌∙◌, inl, inr, refl, string_bytes, rules}
use Rattle.std.proofs.lemmas.Result.{MatchResult-weaker}
use Rattle.nano_grammar.proofs.FaultLaws.{LeadsTo, goes_wrong}
use Rattle.nano_grammar.proofs.TokenCalls.{none_first, fails_here}
use Rattle.nano_json_tokens.specs.Cut.{Cut}
use Rattle.nano_json_tokens.specs.Outcomes.{position}
use Rattle.nano_json_tokens.specs.State.{pending, token_of}
use Rattle.nano_json_tokens.specs.Token.{Token, str, curly_open}
use Rattle.nano_json_schema.specs.Reading.{VariantBegins, AloneName, OpenedName}
use Rattle.nano_json_schema.proofs.variants.read_name.Goals as goal

-- where a string is pending, no bracket is
alone_leads : (text : _) (pending : Token) → pending ≡ str text → LeadsTo VariantBegins AloneName [] pending
alone_leads text pending is us more rest next name (inl e) begins = (us, name, next, more, e, begins)
alone_leads text pending is us more rest next name (inr e) begins =
    let whole = ap (λ (xs : List Token). xs ++ next ∷ more) (sym e) ∙ begins in
    let first : curly_open ≡ pending = cc whole in
    let both : curly_open ≡ str text = first ∙ is in
    absurd (cc both)

-- where a bracket is pending, no string is
opened_leads : (pending : Token) → pending ≡ curly_open → LeadsTo VariantBegins OpenedName [] pending
opened_leads pending is us more rest next name (inl e) begins =
    let whole = ap (λ (xs : List Token). xs ++ next ∷ more) (sym e) ∙ begins in
    let first : str name ≡ pending = cc whole in
    let both : str name ≡ curly_open = first ∙ is in
    absurd (cc both)
opened_leads pending is us more rest next name (inr e) begins = (us, name, next, more, e, begins)

pub returns-in-Str : goal.returns-in-Str
returns-in-Str c =
    let s = c.args.state.now in
    let text = string_bytes s.strbuf in
    let is = ap (λ t. token_of t text (string_bytes s.numbuf)) c.in-Str.is in
    MatchResult-weaker c.read_alone.result c.read_alone.ensures (λ _ h. h)
    (λ e h. none_first Cut VariantBegins AloneName (alone_leads text (pending s) is) h)

pub returns-in-CurlyOpen : goal.returns-in-CurlyOpen
returns-in-CurlyOpen c =
    let s = c.args.state.now in
    let is = ap (λ t. token_of t (string_bytes s.strbuf) (string_bytes s.numbuf)) c.in-CurlyOpen.is in
    MatchResult-weaker c.read_opened.result c.read_opened.ensures (λ _ h. h)
    (λ e h. none_first Cut VariantBegins OpenedName (opened_leads (pending s) is) h)

begins_some : (name : _) → VariantBegins [] name → ⊥
begins_some name (inl e) = absurd (cc e)
begins_some name (inr e) = absurd (cc e)

begins_first : (t : Token) (ts : List Token) (name : _) → VariantBegins (t ∷ ts) name
    → ((text : _) → t ≡ str text → ⊥) → (t ≡ curly_open → ⊥) → ⊥
begins_first t ts name (inl e) no_string no_bracket = let same : t ≡ str name = cc e in no_string name same
begins_first t ts name (inr e) no_string no_bracket = let same : t ≡ curly_open = cc e in no_bracket same

pub returns-in_default : goal.returns-in_default
returns-in_default c =
    let s = c.args.state.now in
    fails_here (goes_wrong Cut VariantBegins (position s c.args.input.now) refl begins_some
    (λ ts name b. begins_first (pending s) ts name b (λ text is. (search rules)) (λ is. (search rules)))) c.err_token.ensures
