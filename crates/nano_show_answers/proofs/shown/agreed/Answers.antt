use Rattle.nano_show_answers.proofs.shown.agreed.Goals as goal

pub returns : goal.returns
returns g c = record {
  bin = g.met.T.BinCodec.agrees;
  json = g.met.T.JsonCodec.agrees;
  ron = g.met.T.RonCodec.agrees;
  bin_is_decodable = g.met.T.DeBin.is_decodable;
}
