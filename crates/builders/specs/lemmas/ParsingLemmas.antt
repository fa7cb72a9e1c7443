-- What is said of a text or a file that makes no configuration.
use Rattle.std.proofs.Common.{◌≡◌, ◌⊎◌, ⊎_elim, ℕ, List, Option, Some, Result, Err, refl, sym, ap, ◌∙◌}
use Rattle.xm_conf.specs.Configuration.{Conf}
use Rattle.bin_config.specs.Gives as binary
use Rattle.fault_messages.specs.Texts.{xmc_fault_text}
use Rattle.fault_messages.specs.declared.fault.XmcFault.{XmcFault}
use Rattle.fault_messages.specs.declared.fault.XmcFault.TheVariants as xmc
use Rattle.xmcf_reader.specs.Faults.{xmcf_fault}
use Rattle.xmcf_reader.specs.Texts.{read_fault_text}
use Rattle.xmcf_reader.specs.declared.draft.Entry.{Entry}
use Rattle.xmcf_reader.specs.declared.fault.ReadFault.{ReadFault}
use Rattle.xmcf_reader.specs.declared.fault.ReadFault.TheVariants as read
use Rattle.fault_messages.specs.Texts.{check_fault_text}
use Rattle.xmcf_check.specs.Verdict.{IsVerdict, verdict_of}
use Rattle.fault_messages.specs.declared.fault.CheckFault.{CheckFault}
use Rattle.fault_messages.specs.declared.fault.CheckFault.TheVariants as check
use Rattle.builders.specs.Makes.{IsRefusalText, IsUnmade}
use Rattle.builders.specs.Parsing.{conf_by_reading, conf_by_verdict, conf_of, of_conf, upgraded}
use Rattle.builders.specs.declared.unmade.Unmade.{Unmade}
use Rattle.builders.specs.declared.unmade.Unmade.TheVariants.{Refused, Memory}

-- the text of a refusal is the refusal
pub stated_makes : {X : Type 0} (why : Unmade) (made : Result X (List ℕ)) (text : List ℕ) → made ≡ Err text → IsRefusalText why text → IsUnmade why made
stated_makes (Refused stated) made text is same = is ∙ ap Err (sym same)
stated_makes Memory made text is same = tt

-- out of memory says nothing
pub memory_makes : {X : Type 0} (why : Unmade) (made : Result X (List ℕ)) → why ≡ Memory → IsUnmade why made
memory_makes (Refused stated) made is = absurd (cc)
memory_makes Memory made is = tt

-- where there is no configuration nothing is made of it
pub unmade_of : (make : Conf → Result (List ℕ) (List ℕ)) (why : Unmade) (described : Result Conf (List ℕ)) → IsUnmade why described → IsUnmade why (of_conf make described)
unmade_of make (Refused text) described is = ap (of_conf make) is
unmade_of make Memory described is = tt

-- what is said of a draft that breaks a rule
pub unfit_makes : (fault : CheckFault) (entries : List Entry) (why : Unmade) → IsVerdict (Err fault) entries → IsRefusalText why (check_fault_text fault) → (fault ≡ check.Memory → why ≡ Memory) → IsUnmade why (conf_by_verdict (verdict_of entries) entries)
unfit_makes check.Memory entries why verdict text memory = memory_makes why _ (memory refl)
unfit_makes (check.Rule rule at and) entries why verdict text memory = stated_makes why _ _ (ap (λ (v : Option CheckFault). conf_by_verdict v entries) verdict) text

-- what is said of a text that is not read
pub unread_makes : (fault : ReadFault) (text : List ℕ) (why : Unmade) → (fault ≡ read.Memory) ⊎ (xmcf_fault text ≡ Some fault) → IsRefusalText why (read_fault_text fault) → (fault ≡ read.Memory → why ≡ Memory) → IsUnmade why (conf_of text)
unfolding conf_of
unread_makes fault text why cause stated memory =
    ⊎_elim (λ starved. memory_makes why _ (memory starved)) (λ found. stated_makes why _ _ (ap (λ (v : Option ReadFault). conf_by_reading v text) found) stated) cause

-- a fault of a binary configuration
pub configuration_unmade : (fault : XmcFault) (read : Result Conf XmcFault) (why : Unmade) → binary.Fails fault read → IsRefusalText why (xmc_fault_text fault) → (fault ≡ xmc.Memory → why ≡ Memory) → IsUnmade why (upgraded read)
configuration_unmade xmc.Memory read why fails stated memory = memory_makes why _ (memory refl)
configuration_unmade other read why fails stated memory = stated_makes why _ _ (ap upgraded fails) stated
