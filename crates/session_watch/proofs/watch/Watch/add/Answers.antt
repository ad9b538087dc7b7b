-- `session_watch::watch::Watch::add` meets its contract. By where the key stands, and by the room. Assumes nothing.
use native.Mathlib.Omega.{arith}
use Rattle.command_spec.specs.Watch.{SpotAt}
use Rattle.session_memory.proofs.Watching.{already_there, spotted_at, spot_within, full_table, full_bytes, holding_more, held_table}
use Rattle.session_watch.proofs.watch.Watch.add.Goals.{In-Some, then-self-ge-MOST_WATCHED-via-then-self-ge-MOST_WATCHED, then-self-ge-MOST_WATCHED-via-else-self-ge-MOST_WATCHED+then-self-len}
use Rattle.session_watch.proofs.watch.Watch.add.Goals as goal

-- where the key goes
spot-here : (c : In-Some) → SpotAt c.args.self.now.lens c.args.self.now.text c.args.self.now.count c.args.name.now c.in-Some.i c.in-Some.start
spot-here c = search spotted_at

pub returns-in_default : goal.returns-in_default
returns-in_default c = search already_there

pub returns-then-self-ge-MOST_WATCHED : goal.returns-then-self-ge-MOST_WATCHED
returns-then-self-ge-MOST_WATCHED c =
    let p = spot-here (goal.at.returns-then-self-ge-MOST_WATCHED c).In-Some in
    elim c.then-self-ge-MOST_WATCHED.branch [
      | then-self-ge-MOST_WATCHED-via-then-self-ge-MOST_WATCHED w ↦ full_table c.args.self.now.table p c.args.last w.if-self-ge-MOST_WATCHED.true
      | then-self-ge-MOST_WATCHED-via-else-self-ge-MOST_WATCHED+then-self-len w ↦ full_bytes c.args.self.now.table p c.args.last w.if-self-ge-MOST_WATCHED.false w.if-self-len.true
    ]

pub insert_bytes-requires : goal.insert_bytes-requires
insert_bytes-requires c = omega (arith, spot_within c.args.self.now.table (spot-here (goal.at.insert_bytes-requires c).In-Some), c.args.self.now.table.bytes, c.args.self.now.table.room, c.if-self-len.false)

pub invariant_of-self-2 : goal.invariant_of-self-2
invariant_of-self-2 c = record { table = held_table (holding_more c.args.self.now.table (spot-here (goal.at.invariant_of-self-2 c).In-Some) c.args.last c.if-self-ge-MOST_WATCHED.false c.if-self-len.false c.insert_word.ensures c.insert_word-2.ensures c.insert_bytes.ensures) c.args.self.now.table.table c.args.self.now.table.sequences c.args.self.now.table.bytes }

pub returns : goal.returns
returns c = holding_more c.args.self.now.table (spot-here (goal.at.returns c).In-Some) c.args.last c.if-self-ge-MOST_WATCHED.false c.if-self-len.false c.insert_word.ensures c.insert_word-2.ensures c.insert_bytes.ensures
