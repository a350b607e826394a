-- `saving::head_line::put_head` meets its contract.
use native.Mathlib.Omega.{arith}
use Rattle.saving.proofs.Heads.{head-room, head-laid}
use Rattle.saving.proofs.head_line.put_head.Goals as goal

pub limit-l-requires : goal.limit-l-requires
limit-l-requires c = omega (arith, head-room c.requires)

pub places-q-requires : goal.places-q-requires
places-q-requires c = omega (arith, head-room c.requires)

pub next_poll-next-requires : goal.next_poll-next-requires
next_poll-next-requires c = omega (arith, head-room c.requires)

pub cursor_at-known-requires : goal.cursor_at-known-requires
cursor_at-known-requires c = omega (arith, head-room c.requires)

pub cursor_at-ready-requires : goal.cursor_at-ready-requires
cursor_at-ready-requires c = omega (arith, head-room c.requires)

pub returns : goal.returns
returns c = (
  omega (
    arith,
    c.put_number-e.ensures.0,
    c.next_number-e.ensures.0,
    c.next_time-e.ensures.0,
    c.next_cursor-e.ensures.0,
    c.next_cursor-e-2.ensures.0,
    c.put_text.ensures.next,
  ),
  head-laid
      c.next_poll-next.result
      c.limit-l.ensures
      c.places-q.ensures
      c.next_poll-next.ensures
      c.cursor_at-known.ensures
      c.cursor_at-ready.ensures
      c.put_number-e.ensures.1
      c.next_number-e.ensures.1
      c.next_time-e.ensures.1
      c.next_cursor-e.ensures.1
      c.next_cursor-e-2.ensures.1 c.put_text.ensures,
)
