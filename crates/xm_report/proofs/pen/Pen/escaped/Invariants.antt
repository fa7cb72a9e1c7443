-- The text is written as far as the loop has come.
use Rattle.std.proofs.Common.{◌≡◌, ◌+◌, ◌*◌, ◌≤◌, ◌++◌, length, take}
use Rattle.xm_report.specs.Report.{escaped}
use Rattle.xm_report.proofs.pen.Pen.escaped.Given as goal

abbrev pub invariant-loop-byte : goal.invariant-loop-byte
invariant-loop-byte l = record {
  text : l.self ≡ l.fn.self ++ escaped (take l.byte-index l.bytes);
  room : length l.self ≤ length l.fn.self + 4 * l.byte-index;
}
