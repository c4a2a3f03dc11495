use Rattle.std.proofs.Common.{refl, ◌∙◌}
use Rattle.nano_json.proofs.Json.{begun}
use Rattle.nano_values.proofs.JsonLemmas.{is_bof}
use Rattle.nano_values.proofs.json.Values.new.Goals as goal

pub returns : goal.returns
returns c =
    let first =
    begun c.new-state.result c.next.new.self c.chars-input.result c.next.new.i c.args.text.now c.chars-input.ensures.rest
    c.new-state.ensures.line c.new-state.ensures.col c.next.ensures.passes c.next.ensures.held c.next.ensures.rest in
    record {
      first = record {
        token = is_bof c.next.new.self (c.next.ensures.tok ∙ c.new-state.ensures.tok);
        text = first.text;
      };
      same = refl;
    }
