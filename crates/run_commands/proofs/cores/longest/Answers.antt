use Rattle.std.proofs.Common.{arith}
use Rattle.run_commands.specs.lemmas.CoreLemmas.{fits_more, fits_none, inside_next}
use Rattle.run_commands.proofs.cores.longest.Goals as goal

pub core_length-requires : goal.core_length-requires
core_length-requires c = (inside_next _ _ _ _ c.in-Some.ensures.value c.loop-first.invariant.inside).0

pub loop-first-preserved : goal.loop-first-preserved
loop-first-preserved c = record {
  inside = (inside_next _ _ _ _ c.in-Some.ensures.value c.loop-first.invariant.inside).1;
  fits = λ most few fits.
      c.loop-first.invariant.fits most (omega (arith, few, c.longer-longest.ensures.one))
      (fits_more _ most _ _ _ c.in-Some.ensures.value (omega (arith, few, c.longer-longest.ensures.other, c.core_length.ensures.value)) fits);
}

pub returns : goal.returns
returns c = c.loop-first.invariant.fits _ (omega arith) (fits_none _ _ _ c.in_default.ensures.value)
