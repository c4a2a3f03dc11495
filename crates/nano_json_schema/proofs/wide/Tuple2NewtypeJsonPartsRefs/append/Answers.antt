use Rattle.std.proofs.Common.{[], ◌∷◌, string_bytes}
use Rattle.std.proofs.lemmas.Result.{on_ok_weaker}
use Rattle.nano_grammar.proofs.WrittenLists.{parts_written}
use Rattle.nano_json_schema.proofs.wide.Tuple2NewtypeJsonPartsRefs.append.Goals as goal

pub returns-clause-ok : goal.returns-clause-ok
returns-clause-ok g c =
    let first = g.T.JsonCodec.json.canonical.text c.args.d c.args.refs.now.0.now in
    let others = g.R.JsonPartsRefs.codec.canonical.text c.args.d (g.R.JsonPartsRefs.values c.args.refs.now.1) in
    on_ok_weaker c.append.result
    (parts_written (string_bytes c.args.s.now.out) (string_bytes c.append_part.new.s.out)
    (string_bytes c.append.new.s.out) first (44 ∷ []) others c.in_ok-append_part.ensures.ok) c.append.ensures.ok
