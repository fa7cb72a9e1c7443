use Rattle.fast_loop.proofs.careful.carefully.Goals as goal

pub returns-clause-part : goal.returns-clause-part
returns-clause-part g c =
    let came = c.careful-part.ensures.part in
    record {
      count = came.count;
      steps = rw (c.of.ensures.0, c.of.ensures.2) came.steps;
      counted = rw (c.of.ensures.0, c.of.ensures.1) came.counted;
      place = rw c.of.ensures.0 came.place;
      end = rw c.of.ensures.1 came.end;
      left = rw (c.of.ensures.0, c.of.ensures.1, c.of.ensures.2) came.left;
    }
