use Rattle.sound_rows.proofs.Fitting.{txid_bits, wtxid_bits}
use Rattle.sound_rows.proofs.candidate.kind_fits.Goals as goal

pub returns-in-Txid : goal.returns-in-Txid
returns-in-Txid c = rw c.in-Txid.is (txid_bits c.args.bits)

pub returns-in-Wtxid : goal.returns-in-Wtxid
returns-in-Wtxid c = rw c.in-Wtxid.is (wtxid_bits c.args.bits)
