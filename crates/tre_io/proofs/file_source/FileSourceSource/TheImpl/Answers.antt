-- A source of the system tells no name and no bytes of its file, and after a failure it stands
-- where it stood.
use Rattle.std.proofs.Common.{refl, sym, ap, subst}
use Rattle.std.proofs.lemmas.Bool.{false≢true}
use Rattle.std.proofs.KnownBytes.{Keeps-refl}
use Rattle.std.proofs.lemmas.Result.{on_ok_weaker, on_err_weaker}
use Rattle.std.specs.Io.KnownBytes.{Keeps}
use Rattle.tre_io.proofs.file_source.FileSourceSource.TheImpl.Goals as goal

pub open-tells : goal.open-tells
open-tells g c =
    let before = c.args.self.now in
    record {
      opens = c.ensures.opens;
      by_name = on_ok_weaker c.result (λ _. tt) c.ensures.opens;
      bytes = on_ok_weaker c.result (λ _. tt) c.ensures.opens;
      finds = on_ok_weaker c.result (λ _. tt) c.ensures.opens;
      opened_before =
          on_err_weaker c.result (λ same. ap (λ source. source.opened) same) c.ensures.unchanged;
      left_before = on_err_weaker c.result (λ same.
          subst (Keeps before.left) (sym (ap (λ source. source.left) same))
          (Keeps-refl before.left))
          c.ensures.unchanged;
      cause = c.ensures.cause;
      never_fails = λ sound _. absurd (false≢true sound);
      same_name = refl;
      same_file = refl;
      same_sound = refl;
    }
