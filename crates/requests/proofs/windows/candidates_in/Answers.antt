use Rattle.requests.proofs.HashRows.{windows_size}
use Rattle.requests.proofs.windows.candidates_in.Goals as goal

pub returns : goal.returns
returns c = λ st s w. rw (c.len.ensures, c.len-2.ensures) (windows_size st s w c.requires.1)
