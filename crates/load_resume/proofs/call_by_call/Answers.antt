use Rattle.rules.proofs.Resumed.{underway_falls, underway_goes}
use Rattle.load_resume.proofs.Gone.{on_less}
use Rattle.load_resume.proofs.call_by_call.Goals as goal

pub loop-next-smaller : goal.loop-next-smaller
loop-next-smaller g c =
    on_less c.loop-next.p c.in-Ok-Next.next c.args.n c.in-Ok-Next.field-0-0 (rw c.in-Ok-Next.field-0-is at c.in-Ok-Next.ensures) c.requires.some

pub returns-in-Ok-Falls : goal.returns-in-Ok-Falls
returns-in-Ok-Falls g c =
    underway_falls c.args.begun.set c.loop-next.p c.args.n c.in-Ok-Falls.field-0-0 c.in-Ok-Falls.v c.loop-next.invariant (rw c.in-Ok-Falls.field-0-is at c.in-Ok-Falls.ensures)

pub returns-in-Err : goal.returns-in-Err
returns-in-Err g c = absurd (underway_goes c.args.begun.set c.loop-next.p c.args.n c.loop-next.invariant c.in-Err.ensures)
