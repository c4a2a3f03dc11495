use Rattle.nano_lines.proofs.PromiseLemmas.{put_begins, written_holds}
use Rattle.nano_lines.proofs.laws.what_was_put_is_taken.Goals as goal

pub returns : goal.returns
returns g c limit before line rest sound appended fits =
    let f = g.T.JsonCodec.json in
    let x = c.args.value.now in
    let holds = written_holds f g.T.Value.means g.T.Value.legal g.met.T.JsonCodec.agrees x c.known.ensures sound in
    put_begins f.encoding.laws limit before line rest (f.canonical.text 0 x) (g.T.Value.means x) appended fits holds
