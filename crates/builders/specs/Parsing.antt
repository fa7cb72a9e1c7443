-- The outcome of the text of a system description.
use Rattle.std.specs.Prelude.{ℕ, List, Option, Some, None, Result, Ok, Err}
use Rattle.xm_conf.specs.Configuration.{Conf}
use Rattle.bin_config.specs.Reading.{read_of}
use Rattle.fault_messages.specs.Texts.{xmc_fault_text}
use Rattle.bin_config.specs.Xmc.{xmc}
use Rattle.fault_messages.specs.declared.fault.XmcFault.{XmcFault}
use Rattle.bin_config.specs.declared.version.Version.TheVariants.{Two}
use Rattle.xmcf_reader.specs.Faults.{draft_of, xmcf_fault}
use Rattle.xmcf_reader.specs.Texts.{read_fault_text}
use Rattle.xmcf_reader.specs.declared.draft.Entry.{Entry}
use Rattle.xmcf_reader.specs.declared.fault.ReadFault.{ReadFault}
use Rattle.xmcf_check.specs.Described.{description_of}
use Rattle.fault_messages.specs.Texts.{check_fault_text}
use Rattle.xmcf_check.specs.Verdict.{verdict_of}
use Rattle.fault_messages.specs.declared.fault.CheckFault.{CheckFault}

-- the configuration that a draft describes, or the text of the first broken rule
abbrev pub conf_by_verdict : Option CheckFault → List Entry → Result Conf (List ℕ)
conf_by_verdict None entries = Ok (description_of entries).conf
conf_by_verdict (Some fault) entries = Err (check_fault_text fault)

-- the configuration of a text that was read, or the text of its first fault
abbrev pub conf_by_reading : Option ReadFault → List ℕ → Result Conf (List ℕ)
conf_by_reading None text = conf_by_verdict (verdict_of (draft_of text)) (draft_of text)
conf_by_reading (Some fault) text = Err (read_fault_text fault)

-- the configuration that a text describes, or the text of its first fault
unfoldable pub conf_of : List ℕ → Result Conf (List ℕ)
conf_of text = conf_by_reading (xmcf_fault text) text

-- what is made of a configuration, or the text of why there is none
abbrev pub of_conf : (Conf → Result (List ℕ) (List ℕ)) → Result Conf (List ℕ) → Result (List ℕ) (List ℕ)
of_conf make (Ok conf) = make conf
of_conf make (Err text) = Err text

-- the binary configuration that a text describes, or the text of its first fault
unfoldable pub xmc_of : List ℕ → Result (List ℕ) (List ℕ)
xmc_of text = of_conf (λ conf. Ok (xmc Two conf)) (conf_of text)

-- a configuration that was read, in version 2, or the text of its fault
abbrev pub upgraded : Result Conf XmcFault → Result (List ℕ) (List ℕ)
upgraded (Ok conf) = Ok (xmc Two conf)
upgraded (Err fault) = Err (xmc_fault_text fault)

-- the binary configuration that bytes of either version are, in version 2, or the text of their first fault
unfoldable pub upgraded_of : List ℕ → Result (List ℕ) (List ℕ)
upgraded_of bytes = upgraded (read_of bytes)
