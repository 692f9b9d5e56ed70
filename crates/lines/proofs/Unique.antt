-- For each public function: any two results that its contract allows are equal. The contract is the one that the checker reads from the source.
use Rattle.graph.proofs.Unique.{by_definition}
use Rattle.table.proofs.Unique.{OneResult}
use Rattle.lines.proofs.opening.open_line.Kinds as open-line-kinds
use Rattle.lines.proofs.opening.open_line.Reads as open-line-reads
use Rattle.lines.proofs.ticking.tick_line.Kinds as tick-line-kinds
use Rattle.lines.proofs.ticking.tick_line.Reads as tick-line-reads
use Rattle.lines.proofs.showing.set_of.Kinds as set-of-kinds
use Rattle.lines.proofs.showing.set_of.Reads as set-of-reads
use Rattle.lines.proofs.showing.clock_of.Kinds as clock-of-kinds
use Rattle.lines.proofs.showing.clock_of.Reads as clock-of-reads
use Rattle.lines.proofs.showing.show_opening.Kinds as show-opening-kinds
use Rattle.lines.proofs.showing.show_opening.Reads as show-opening-reads
use Rattle.lines.proofs.showing.show_tick.Kinds as show-tick-kinds
use Rattle.lines.proofs.showing.show_tick.Reads as show-tick-reads
use Rattle.lines.proofs.ruling.ruling_line.Kinds as ruling-line-kinds
use Rattle.lines.proofs.ruling.ruling_line.Reads as ruling-line-reads

pub open_line_one : OneResult 1 open-line-kinds.ps open-line-kinds.r open-line-reads.Post
open_line_one κs args x y s t = by_definition

pub tick_line_one : OneResult 0 tick-line-kinds.ps tick-line-kinds.r tick-line-reads.Post
tick_line_one κs args x y s t = by_definition

pub set_of_one : OneResult 0 set-of-kinds.ps set-of-kinds.r set-of-reads.Post
set_of_one κs args x y s t = by_definition

pub clock_of_one : OneResult 0 clock-of-kinds.ps clock-of-kinds.r clock-of-reads.Post
clock_of_one κs args x y s t = by_definition

pub show_opening_one : OneResult 1 show-opening-kinds.ps show-opening-kinds.r show-opening-reads.Post
show_opening_one κs args x y s t = by_definition

pub show_tick_one : OneResult 1 show-tick-kinds.ps show-tick-kinds.r show-tick-reads.Post
show_tick_one κs args x y s t = by_definition

pub ruling_line_one : OneResult 0 ruling-line-kinds.ps ruling-line-kinds.r ruling-line-reads.Post
ruling_line_one κs args x y s t = by_definition
