use Rattle.console_replay.proofs.Replays.{too_long, recording_is}
use Rattle.console_replay.proofs.recording.Goals as goal

pub returns-then-text-gt-MOST_BYTES : goal.returns-then-text-gt-MOST_BYTES
returns-then-text-gt-MOST_BYTES c =
    too_long _ _ _ _ c.if-text-gt-MOST_BYTES.true c.unknown_line.ensures

pub returns : goal.returns
returns c =
    recording_is _ _ _ _ _ c.if-text-gt-MOST_BYTES.false c.loaded.ensures c.recording_line.ensures
