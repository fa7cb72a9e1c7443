-- The head alone is what is read of its fields.
use Rattle.std.proofs.Common.{◌≡◌, ℕ, List, Result, subst}
use Rattle.file_headers.specs.Gives.{IsRead}
use Rattle.file_headers.specs.lemmas.GivesTerms.{IsReadAt}
use Rattle.saved_machines.specs.Reading.{head_in, head_value}
use Rattle.saved_machines.specs.SavedFormat.{head_format}
use Rattle.saved_machines.specs.declared.fault.SavedFault.{SavedFault}
use Rattle.saved_machines.specs.declared.head.Head.{Head}
use Rattle.saved_machines.proofs.ReadLemmas.{read_alone}
use Rattle.xm_base.specs.Cursor.{Place, cursor_start, past}
use Rattle.xm_conf.specs.Configuration.{Conf}

pub in_head : (conf : Conf) (container : List ℕ) (before : List ℕ) (start : Place) (answer : Result Head SavedFault) (after : Place) → start ≡ cursor_start before
    → IsReadAt head_value answer after ((head_format conf container).read (past 10 start)) → IsRead head_value answer (head_in conf container before)
unfolding head_in
in_head conf container before start answer after from is =
    read_alone head_value answer after ((head_format conf container).read (past 10 (cursor_start before)))
    (subst (λ (place : Place). IsReadAt head_value answer after ((head_format conf container).read (past 10 place))) from is)
