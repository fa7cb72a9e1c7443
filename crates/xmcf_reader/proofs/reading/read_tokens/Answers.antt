use Rattle.std.proofs.Common.{◌∙◌}
use Rattle.std.proofs.lemmas.Result.{err_from_is_err_and}
use Rattle.xmcf_reader.specs.lemmas.Seen.{token_of}
use Rattle.xmcf_reader.specs.lemmas.Trees.{context_of}
use Rattle.xmcf_reader.specs.lemmas.Cuts.{cut_left}
use Rattle.xmcf_reader.proofs.Faultless.{entries_drafted}
use Rattle.xmcf_reader.proofs.Progress.{progress, first_broken, end_whole}
use Rattle.xmcf_reader.proofs.reading.read_tokens.Goals as goal

pub loop-token-preserved : goal.loop-token-preserved
loop-token-preserved c =
    progress c.args.text.now (context_of c.loop-token.tree) (context_of c.take.new.self) (token_of c.in-Item.token) c.in-Item.at
    c.loop-token.tokens.place c.loop-token.tokens.rest.now c.next.new.self.place c.next.new.self.rest.now c.loop-token.invariant
    c.in-Item.ensures.next c.in-Item.ensures.moves.1 c.in-Item.ensures.room c.in_ok-take-in-Item.ensures.0 c.in_ok-take-in-Item.ensures.1

pub returns-in_err-take-in-Item : goal.returns-in_err-take-in-Item
returns-in_err-take-in-Item c =
    let p = err_from_is_err_and c.from_residual.result c.from_residual.ensures.1 in
    rw (p.1, p.2)
    (first_broken c.args.text.now (context_of c.loop-token.tree) (token_of c.in-Item.token) c.in-Item.at
    c.loop-token.tokens.place c.loop-token.tokens.rest.now (cut_left c.next.new.self) _ c.loop-token.invariant c.in-Item.ensures.next c.in_err-take-in-Item.ensures)

pub new-requires : goal.new-requires
new-requires c =
    let whole = end_whole c.args.text.now (context_of c.loop-token.tree) c.in-End.at c.loop-token.tokens.place c.loop-token.tokens.rest.now c.loop-token.invariant c.in-End.ensures.next c.in_ok-finish-in-End.ensures in
    entries_drafted c.args.text.now c.into_entries.result.items whole.0 (c.into_entries.ensures ∙ whole.1)
