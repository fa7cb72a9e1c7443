use Rattle.virt_traps.proofs.RangeLemmas.{usable}
use Rattle.virt_traps.proofs.save_area.load_words.Goals as goal

pub load_doubles-requires-clause-aligned : goal.load_doubles-requires-clause-aligned
load_doubles-requires-clause-aligned g c = (usable _ c.args.address c.requires.usable).aligned

pub load_doubles-requires-clause-inside : goal.load_doubles-requires-clause-inside
load_doubles-requires-clause-inside g c = (usable _ c.args.address c.requires.usable).inside

pub load_doubles-requires-clause-allowed : goal.load_doubles-requires-clause-allowed
load_doubles-requires-clause-allowed g c = (usable _ c.args.address c.requires.usable).bytes
