mod PilotLaws
mod Rows
