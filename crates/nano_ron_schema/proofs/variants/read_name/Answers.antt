use Rattle.std.proofs.Common.{◌≡◌, refl, sym, subst}
use Rattle.nano_text.proofs.PlaceLaws.{advances_none}
use Rattle.nano_grammar.proofs.FaultLaws.{goes_wrong, stopped_here}
use Rattle.nano_grammar.proofs.TokenCalls.{passed_on}
use Rattle.nano_ron_tokens.specs.Cut.{Cut}
use Rattle.nano_ron_tokens.specs.State.{pending}
use Rattle.nano_ron_tokens.specs.Token.{ident, IsIdent}
use Rattle.nano_ron_schema.specs.Reading.{VariantBegins}
use Rattle.nano_ron_tokens.specs.Outcomes.{position}
use Rattle.nano_ron_schema.proofs.variants.read_name.Goals as goal

pub returns : goal.returns
returns c =
    let next = c.in_ok-next_tok.ensures in
    record {
      taken = (sym c.in_ok-name.ensures, ((position c.next_tok.new.self c.next_tok.new.i).at, next.taken, refl));
      buffers = tt;
      place = next.place;
    }

pub returns-in_err-name : goal.returns-in_err-name
returns-in_err-name c =
    let none = c.in_err-name.ensures in
    passed_on _ _ c.from_residual.result c.from_residual.ensures.1
    (record {
      rejected = λ known.
          goes_wrong Cut VariantBegins (position c.args.state.now c.args.input.now) refl (λ v e. absurd (cc e))
          (λ ts name e. let same : pending c.args.state.now ≡ ident name = cc e in
          none.rejected known (subst IsIdent (sym same) tt));
      made = none.made;
      place = advances_none _ _;
    })

pub returns-in_err-next_tok : goal.returns-in_err-next_tok
returns-in_err-next_tok c =
    passed_on _ _ c.from_residual-in_err-next_tok.result c.from_residual-in_err-next_tok.ensures.1
    (stopped_here Cut VariantBegins refl (λ v e. absurd (cc e)) c.in_err-next_tok.ensures.fails)
