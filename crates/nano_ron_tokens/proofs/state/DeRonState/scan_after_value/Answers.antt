use Rattle.std.proofs.Common.{string_bytes, rules}
use Rattle.nano_ron_tokens.proofs.Cuts.{punctuator_cut, punctuator_some}
use Rattle.nano_ron_tokens.proofs.state.DeRonState.scan_after_value.Goals as goal

pub returns-in-Some : goal.returns-in-Some
returns-in-Some c =
    let is = c.in-Some.ensures (string_bytes c.next.new.self.strbuf) (string_bytes c.next.new.self.numbuf) (string_bytes c.next.new.self.identbuf) in
    record {
      taken = rw (c.next.ensures.taken (punctuator_some _ _ is)) (punctuator_cut _ _ _ is);
      buffers = search rules;
      place = c.next.ensures.counts (punctuator_some _ _ is);
    }
