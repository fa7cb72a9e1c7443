use Rattle.std.proofs.Common.{ap, sym, ◌∙◌, ◌+◌}
use Rattle.xmcf_reader.specs.Faults.{Item, Rest, cut}
use Rattle.xmcf_reader.specs.lemmas.Seen.{token_of}
use Rattle.xmcf_reader.proofs.CutLemmas.{next_found, next_stops, next_ends}
use Rattle.xmcf_reader.proofs.tokens.Tokens.next.Goals as goal

pub returns-in_default-clause-next : goal.returns-in_default-clause-next
returns-in_default-clause-next c = next_ends c.args.self.now.place c.args.self.now.rest.now c.in_default.ensures.value

pub returns-in-Found-clause-next : goal.returns-in-Found-clause-next
returns-in-Found-clause-next c =
    next_found c.args.self.now.place c.args.self.now.rest.now (token_of c.in-Found.token) c.in-Found.size c.in-Found.ensures.token c.in-Found.ensures.within.0 c.in-Found.ensures.within.1
    ∙ ap (λ rest. Item (token_of c.in-Found.token) c.args.self.now.place (cut (c.args.self.now.place + c.in-Found.size) 0 rest)) (sym c.split_at.ensures.back)

pub returns-in-Broken-clause-next : goal.returns-in-Broken-clause-next
returns-in-Broken-clause-next c =
    next_stops c.args.self.now.place c.in-Some.byte.now c.args.self.now.rest.now c.in-Broken.stop c.in-Broken.ensures.token c.in-Some.ensures.value
    ∙ ap (Rest c.args.self.now.place c.in-Some.byte.now) (sym c.stopped.ensures)
