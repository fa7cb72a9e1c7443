use Rattle.bin_config.proofs.FewLemmas.{fitting_counts}
use Rattle.bin_config.proofs.writing.body_of.Goals as goal

pub put_body-requires-clause-counts : goal.put_body-requires-clause-counts
put_body-requires-clause-counts c = rw c.raw.ensures.value (fitting_counts c.args.conf.now c.raw.ensures.fits)
