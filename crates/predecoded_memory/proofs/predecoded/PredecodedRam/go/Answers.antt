use Rattle.std.proofs.Common.{◌-◌, ◌≤◌, ℕ, List, take, drop, sym, subst, arith}
use Rattle.guest_memory.specs.Memories.{areas_at, map_at}
use Rattle.predecode.specs.declared.rows.Row.{Row}
use Rattle.fast_loop.specs.Keeping.{AreLengths, AreRowsOf}
use Rattle.predecoded_memory.specs.Shares.{made_of}
use Rattle.predecoded_memory.proofs.GoingLemmas.{ran_kept, share_lengths, share_rows}
use Rattle.predecoded_memory.proofs.predecoded.PredecodedRam.go.Goals as goal

pub run_rows-ran-requires-clause-rows : goal.run_rows-ran-requires-clause-rows
run_rows-ran-requires-clause-rows c =
    let begin = c.self.inside.own.words.begin in
    let n = c.min-end.result - begin in
    let made : made_of c.self.inside.top c.self.inside.own ≤ n = omega (arith, c.min-end.ensures) in
    let fits : n ≤ c.self.inside.own.words.end - begin = omega (arith, c.min-end.ensures) in
    subst (λ (l : List Row). AreRowsOf (take n (drop begin l)) (areas_at c.self.inside.ram.selected c.self.inside.ram) (map_at c.self.inside.ram.selected c.self.inside.ram) c.self.inside.own.first) (sym c.deref.ensures.value)
    (share_rows c.self.inside.ram c.self.inside.rows.items c.self.inside.lengths.items c.self.inside.parts.items c.self.inside.share c.self.inside.top c.self.inside.own c.self.invariant n made fits)

pub run_rows-ran-requires-clause-lengths : goal.run_rows-ran-requires-clause-lengths
run_rows-ran-requires-clause-lengths c =
    let begin = c.self.inside.own.words.begin in
    let n = c.min-end.result - begin in
    let made : made_of c.self.inside.top c.self.inside.own ≤ n = omega (arith, c.min-end.ensures) in
    let fits : n ≤ c.self.inside.own.words.end - begin = omega (arith, c.min-end.ensures) in
    subst (λ (l : List Row). AreLengths (take n (drop begin c.deref-2.result.now)) (take n (drop begin l))) (sym c.deref.ensures.value)
    (subst (λ (l : List ℕ). AreLengths (take n (drop begin l)) (take n (drop begin c.self.inside.rows.items))) (sym c.deref-2.ensures.value)
    (share_lengths c.self.inside.ram c.self.inside.rows.items c.self.inside.lengths.items c.self.inside.parts.items c.self.inside.share c.self.inside.top c.self.inside.own c.self.invariant n made fits))

pub invariant_of-self : goal.invariant_of-self
invariant_of-self c =
    let begin = c.self.inside.own.words.begin in
    let n = c.min-end.result - begin in
    let made : made_of c.self.inside.top c.self.inside.own ≤ n = omega (arith, c.min-end.ensures) in
    let fits : n ≤ c.self.inside.own.words.end - begin = omega (arith, c.min-end.ensures) in
    ran_kept c.self.inside.ram c.self.inside.rows.items c.self.inside.lengths.items c.self.inside.parts.items c.self.inside.share c.self.inside.top c.self.inside.own c.self.invariant n made fits
    c.run_rows-ran.new.bus c.selected-now.ensures.memories c.run_rows-ran.ensures.others c.run_rows-ran.ensures.areas
    (subst (λ (l : List Row). AreRowsOf (take n (drop begin l)) (areas_at c.run_rows-ran.new.bus.selected c.run_rows-ran.new.bus) (map_at c.run_rows-ran.new.bus.selected c.run_rows-ran.new.bus) c.self.inside.own.first) c.deref.ensures.value c.run_rows-ran.ensures.rows)
