-- The table of the functions here, and that a look-up that holds it finds what other crates call: for the crate linked.
use mathlib.Core.Bool.{true}
use prog.Wired.{Code}
use prog.Linked.{Tree, World, Holds, in_world}
use prog.LinkedThreads.{HasT}
use Rattle.reader.proofs.TheLink
use Rattle.reader.proofs.Summary.class_cap.Symbol as Summary-class_cap-symbol
use Rattle.reader.proofs.Summary.class_of.Symbol as Summary-class_of-symbol
use Rattle.reader.proofs.Summary.classes.Symbol as Summary-classes-symbol
use Rattle.reader.proofs.Summary.count.Symbol as Summary-count-symbol
use Rattle.reader.proofs.Summary.group.Symbol as Summary-group-symbol
use Rattle.reader.proofs.Summary.groups.Symbol as Summary-groups-symbol
use Rattle.reader.proofs.Summary.items.Symbol as Summary-items-symbol
use Rattle.reader.proofs.Summary.level.Symbol as Summary-level-symbol
use Rattle.reader.proofs.Summary.link_label.Symbol as Summary-link_label-symbol
use Rattle.reader.proofs.Summary.link_source.Symbol as Summary-link_source-symbol
use Rattle.reader.proofs.Summary.link_target.Symbol as Summary-link_target-symbol
use Rattle.reader.proofs.Summary.links.Symbol as Summary-links-symbol
use Rattle.reader.proofs.Summary.marks.Symbol as Summary-marks-symbol
use Rattle.reader.proofs.Summary.near_cap.Symbol as Summary-near_cap-symbol
use Rattle.reader.proofs.Summary.row_count.Symbol as Summary-row_count-symbol
use Rattle.reader.proofs.Summary.row_group.Symbol as Summary-row_group-symbol
use Rattle.reader.proofs.Summary.row_way.Symbol as Summary-row_way-symbol
use Rattle.reader.proofs.Summary.rows.Symbol as Summary-rows-symbol

abbrev pub table : Tree
table = TheLink.table

abbrev pub Below : World → Type 0
Below = TheLink.Below

abbrev pub Found : Code → Type 0
Found c = (W : World) → Holds W "reader" table → Below W → HasT (in_world W) true c

pub has-Summary-class_cap : Found Summary-class_cap-symbol.code
has-Summary-class_cap = TheLink.linked-reader::Summary::class_cap

pub has-Summary-class_of : Found Summary-class_of-symbol.code
has-Summary-class_of = TheLink.linked-reader::Summary::class_of

pub has-Summary-classes : Found Summary-classes-symbol.code
has-Summary-classes = TheLink.linked-reader::Summary::classes

pub has-Summary-count : Found Summary-count-symbol.code
has-Summary-count = TheLink.linked-reader::Summary::count

pub has-Summary-group : Found Summary-group-symbol.code
has-Summary-group = TheLink.linked-reader::Summary::group

pub has-Summary-groups : Found Summary-groups-symbol.code
has-Summary-groups = TheLink.linked-reader::Summary::groups

pub has-Summary-items : Found Summary-items-symbol.code
has-Summary-items = TheLink.linked-reader::Summary::items

pub has-Summary-level : Found Summary-level-symbol.code
has-Summary-level = TheLink.linked-reader::Summary::level

pub has-Summary-link_label : Found Summary-link_label-symbol.code
has-Summary-link_label = TheLink.linked-reader::Summary::link_label

pub has-Summary-link_source : Found Summary-link_source-symbol.code
has-Summary-link_source = TheLink.linked-reader::Summary::link_source

pub has-Summary-link_target : Found Summary-link_target-symbol.code
has-Summary-link_target = TheLink.linked-reader::Summary::link_target

pub has-Summary-links : Found Summary-links-symbol.code
has-Summary-links = TheLink.linked-reader::Summary::links

pub has-Summary-marks : Found Summary-marks-symbol.code
has-Summary-marks = TheLink.linked-reader::Summary::marks

pub has-Summary-near_cap : Found Summary-near_cap-symbol.code
has-Summary-near_cap = TheLink.linked-reader::Summary::near_cap

pub has-Summary-row_count : Found Summary-row_count-symbol.code
has-Summary-row_count = TheLink.linked-reader::Summary::row_count

pub has-Summary-row_group : Found Summary-row_group-symbol.code
has-Summary-row_group = TheLink.linked-reader::Summary::row_group

pub has-Summary-row_way : Found Summary-row_way-symbol.code
has-Summary-row_way = TheLink.linked-reader::Summary::row_way

pub has-Summary-rows : Found Summary-rows-symbol.code
has-Summary-rows = TheLink.linked-reader::Summary::rows
