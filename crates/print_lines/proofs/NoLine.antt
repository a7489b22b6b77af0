-- Replies that are no fault's line.
use Rattle.std.proofs.Common.{ℕ, List, None}
use Rattle.print_lines.specs.declared.status.Status as statuses
use Rattle.print_lines.specs.Reply.{IsLineOfFault, lists, says}

pub no_line : (text : List ℕ) (ends : statuses.Status) → IsLineOfFault None (says text ends)
no_line text ends fault is = cc

pub no_line_of_lists : (text : List ℕ) → IsLineOfFault None (lists text)
no_line_of_lists text fault is = cc
