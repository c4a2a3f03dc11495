use Rattle.std.proofs.Common.{string_bytes, subst, sym, ◌∙◌}
use Rattle.std.proofs.lemmas.Result.{MatchResult-weaker}
use Rattle.nano_grammar.proofs.TokenCalls.{passed_on}
use Rattle.nano_grammar.proofs.FieldCalls.{known_not}
use Rattle.nano_ron_tokens.specs.State.{pending}
use Rattle.nano_ron_tokens.specs.Token.{IsIdent}
use Rattle.nano_grammar.specs.UserOutcomes.{FieldTokens}
use Rattle.nano_ron_schema.specs.Reading.{Allowed, head}
use Rattle.nano_ron_schema.specs.FieldCodecs.{fields_with}
use Rattle.nano_ron_schema.specs.Outcomes.{TakesUnknown}
use Rattle.nano_ron_tokens.specs.Outcomes.{position}
use Rattle.nano_ron_schema.proofs.Calls.{still_there}
use Rattle.nano_ron_schema.proofs.FieldCalls.{divided_not, known_field, no_other, other_field}
use Rattle.nano_ron_schema.proofs.read.read_any.Goals as goal

pub returns-then-branch : goal.returns-then-branch
returns-then-branch g c =
    let name = string_bytes c.args.state.now.identbuf in
    known_field g.U.Unknown.after name g.F.RonFields.codec.struct (rw c.if-branch.true at c.in_ok-read_field.ensures)

-- the name is still pending
pub take-requires : goal.take-requires
take-requires g c =
    let same = c.in_ok-read_field.ensures.unknown c.if-branch.false in
    subst (λ s. IsIdent (pending s)) (sym (same.1.0)) c.requires

pub returns : goal.returns
returns g c =
    let h = c.in_ok-read_field.ensures in
    let struct = g.F.RonFields.codec.struct in
    let name = string_bytes c.args.state.now.identbuf in
    let none = sym h.known_is ∙ c.if-branch.false in
    let same = h.unknown c.if-branch.false in
    let still = still_there same.1 in
    let take = subst (λ s. TakesUnknown (string_bytes s.identbuf) g.U.Unknown.after (position c.read_field.new.state c.read_field.new.input) (position c.take.new.state c.take.new.input) c.take.result) same.1.0 c.take.ensures in
    MatchResult-weaker c.take.result take
    (λ _ k. other_field g.U.Unknown.after name struct none still k (λ fs f e x.
    g.met.F.RonFields.skips c.read_field.new.slots fs f e (subst (λ s. g.F.RonFields.holds s fs) (sym same.0) x)))
    (λ e k. no_other g.U.Unknown.after name struct none still k)

pub returns-in_err-read_field : goal.returns-in_err-read_field
returns-in_err-read_field g c =
    let name = string_bytes c.args.state.now.identbuf in
    passed_on _ _ c.from_residual.result c.from_residual.ensures.1
    (divided_not (FieldTokens (head name) name (Allowed g.U.Unknown.after g.F.RonFields.codec.struct.shape))
    (known_not (fields_with g.U.Unknown.after) name g.F.RonFields.codec.struct.shape (head name) c.in_err-read_field.ensures))
