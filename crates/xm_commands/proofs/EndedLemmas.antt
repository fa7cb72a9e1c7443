-- How a call ends by its arguments.
use Rattle.std.proofs.Common.{◌≡◌, ◌≢◌, ℕ, List, refl, ◌∙◌, sym, subst}
use Rattle.std.specs.Prelude.{Result, Ok, Err, String, Vec}
use Rattle.std.specs.IoError.{error_kind}
use Rattle.std.specs.declared.io.Error.{Error}
use Rattle.std.specs.declared.io.ErrorKind.TheVariants.{OutOfMemory}
use Rattle.file_commands.specs.Status.{IsCodeOf}
use Rattle.file_commands.specs.declared.status.Status.{Status}
use Rattle.file_commands.specs.declared.status.Status.TheVariants.{Done, NoMemory}
use Rattle.xm_commands.specs.Arguments.{after_name}
use Rattle.xm_commands.specs.Ended.{AnswersArguments, IsEndedBy, IsOnFiles, SaysUsage, unseen}

-- the end of a call whose arguments were read, with streams that counted no fault before
pub read_ended : {A : Type 0} (given : Result (Vec (String A) A) Error) (texts : Vec (String A) A) (handed : List (String A)) (status : Status) (exit before after error_before error_after : ℕ)
    → given ≡ Ok texts → handed ≡ texts.items → before ≡ 0 → error_before ≡ 0 → IsCodeOf status exit
    → IsOnFiles status (after_name handed) (unseen before) (unseen after) (unseen error_before) (unseen error_after) → (status ≡ Done → error_after ≡ 0) → IsEndedBy given exit
read_ended given texts handed status exit before after error_before error_after is same no_fault no_error code came silent = record {
  status = status;
  faults = after;
  error_faults = error_after;
  code = code;
  answer =
      subst (λ g. AnswersArguments g status after error_after) (sym is) (
      subst (λ n. IsOnFiles status (after_name texts.items) (unseen n) (unseen after) (unseen 0) (unseen error_after)) no_fault (
      subst (λ n. IsOnFiles status (after_name texts.items) (unseen before) (unseen after) (unseen n) (unseen error_after)) no_error (
      subst (λ l. IsOnFiles status (after_name l) (unseen before) (unseen after) (unseen error_before) (unseen error_after)) same came)));
  silent = silent;
}

-- the end of a call whose arguments could not be read
pub unread_ended : {A : Type 0} (given : Result (Vec (String A) A) Error) (error : Error) (status : Status) (exit error_before error_after : ℕ)
    → given ≡ Err error → error_before ≡ 0 → IsCodeOf status exit
    → (error_kind error ≡ OutOfMemory → status ≡ NoMemory) → (error_kind error ≡ OutOfMemory → error_after ≡ error_before) → (error_kind error ≢ OutOfMemory → SaysUsage status (unseen error_before) (unseen error_after))
    → (status ≡ Done → error_after ≡ error_before) → IsEndedBy given exit
unread_ended given error status exit error_before error_after is no_error code starved quiet misused silent = record {
  status = status;
  faults = 0;
  error_faults = error_after;
  code = code;
  answer = subst (λ g. AnswersArguments g status 0 error_after) (sym is) record {
    report = refl;
    starved = λ memory. (starved memory, quiet memory ∙ no_error);
    misused = λ other. subst (λ n. SaysUsage status (unseen n) (unseen error_after)) no_error (misused other);
  };
  silent = λ done. silent done ∙ no_error;
}
