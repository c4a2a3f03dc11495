use Rattle.nano_bin.proofs.RoundTrip.{same_items}
use Rattle.nano_bin.proofs.laws.same_items_same_bytes.Goals as goal

pub returns-clause-written : goal.returns-clause-written
returns-clause-written g c = same_items g.T.Key.order g.T.BinCodec.bin g.met.T.BinCodec.agrees g.T.Ord.cmp c.args.hashed.now.keys c.args.ordered.now.keys

pub returns-clause-encodes : goal.returns-clause-encodes
returns-clause-encodes g c bytes m = (λ h. h, λ h. h)
