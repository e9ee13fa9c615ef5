pub mod SumsLaws
pub mod RoomLaws
