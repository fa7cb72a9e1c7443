use Rattle.system_state.proofs.InsideLemmas.{is_in_inputs}
use Rattle.system_state.proofs.sys.Sys.input.Goals as goal

pub word-requires : goal.word-requires
word-requires c = is_in_inputs c.self.inside c.args.self.now c.args.p c.self.invariant c.self.view_is c.requires
