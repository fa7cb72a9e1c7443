use Rattle.codecs.specs.lemmas.HeadedLemmas.{file_through_lawful, judged_lawful, sized_lawful, versioned_lawful}
use Rattle.codecs.proofs.law.headed_files_are_lawful.Goals as goal

pub returns-clause-sized : goal.returns-clause-sized
returns-clause-sized g c = sized_lawful

pub returns-clause-versioned : goal.returns-clause-versioned
returns-clause-versioned g c = versioned_lawful

pub returns-clause-others : goal.returns-clause-others
returns-clause-others g c = file_through_lawful

pub returns-clause-judged : goal.returns-clause-judged
returns-clause-judged g c = judged_lawful
