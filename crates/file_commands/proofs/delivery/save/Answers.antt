use Rattle.std.proofs.Common.{[], inl, refl}
use Rattle.file_commands.proofs.delivery.save.Goals as goal

pub returns-in-Err : goal.returns-in-Err
returns-in-Err g c = inl (record {
  first = [];
  output = record { file = c.args.output.now; bytes = c.args.bytes.now };
  rest = [];
  split = refl;
  named = refl;
  cause = c.in-Err.ensures.cause;
  others = c.in-Err.ensures.files;
  outside = rw (c.in-Err.ensures.reads, c.in-Err.ensures.calls) refl;
})
