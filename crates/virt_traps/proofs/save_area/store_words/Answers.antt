use Rattle.virt_traps.proofs.RangeLemmas.{usable}
use Rattle.virt_traps.proofs.save_area.store_words.Goals as goal

pub store_doubles-requires-clause-aligned : goal.store_doubles-requires-clause-aligned
store_doubles-requires-clause-aligned g c = (usable _ c.args.address c.requires.usable).aligned

pub store_doubles-requires-clause-inside : goal.store_doubles-requires-clause-inside
store_doubles-requires-clause-inside g c = (usable _ c.args.address c.requires.usable).inside

pub store_doubles-requires-clause-allowed : goal.store_doubles-requires-clause-allowed
store_doubles-requires-clause-allowed g c = (usable _ c.args.address c.requires.usable).bytes
