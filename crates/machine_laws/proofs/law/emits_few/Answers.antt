use Rattle.machine_laws.proofs.FewLemmas as lemmas
use Rattle.machine_laws.proofs.PrintLemmas.{prints_few, runs_print_few}
use Rattle.machine_laws.proofs.law.emits_few.Goals as goal

pub returns : goal.returns
returns c = record { law = lemmas.emits_few; tick = prints_few; runs = runs_print_few c.keeps_numbers.ensures.ticks }
