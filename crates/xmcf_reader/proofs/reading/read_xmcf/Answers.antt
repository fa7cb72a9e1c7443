use Rattle.std.proofs.Common.{inr, ◌∙◌}
use Rattle.std.proofs.lemmas.Str.{utf8_valid_len-IsUtf8}
use Rattle.xmcf_reader.proofs.Verdict.{reported_draft, reported_fault, reported_bytes}
use Rattle.xmcf_reader.proofs.reading.read_xmcf.Goals as goal

pub returns-in-Ok-clause-draft : goal.returns-in-Ok-clause-draft
returns-in-Ok-clause-draft c = reported_draft c.args.text.now c.read_tokens.result (utf8_valid_len-IsUtf8 c.args.text.now c.in-Ok.ensures.cases.1) c.read_tokens.ensures

pub returns-in-Ok-clause-refused : goal.returns-in-Ok-clause-refused
returns-in-Ok-clause-refused c = reported_fault c.args.text.now c.read_tokens.result (utf8_valid_len-IsUtf8 c.args.text.now c.in-Ok.ensures.cases.1) c.read_tokens.ensures

pub returns-in-Err-clause-refused : goal.returns-in-Err-clause-refused
returns-in-Err-clause-refused c = inr (reported_bytes c.args.text.now c.valid_up_to.result (c.valid_up_to.ensures ∙ c.in-Err.ensures.valid_len) (rw c.valid_up_to.ensures c.in-Err.ensures.cases.1.short))
